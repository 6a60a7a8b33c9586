use Rattle.std.proofs.Common.{◌≡◌, ◌≢◌, ◌≤◌, ◌+◌, ◌++◌, ◌∷◌, ◌∙◌, ℕ, List, [], ap, arith, inl, inr, length, refl, rules, subst}
use Rattle.std.specs.Io.KnownBytes.{Consumes}
use Rattle.std.proofs.KnownBytes.{Consumes-kept, Consumes-nil, Consumes-trans}
use Rattle.std.proofs.lemmas.List.{append-nil, length-append}
use Rattle.std.proofs.lemmas.List.Elements.{All-append, All-cons, All-nil}
use Rattle.std.proofs.lemmas.Result.{err_from_is_err_and}
use Rattle.sql_statements.specs.Lexis.{line_feed}
use Rattle.script_engine.specs.script.Script.{most_bytes}
use Rattle.bitemporal_file.proofs.parts.read_line.Goals as goal

abbrev NoFeed : ℕ → Type 0
NoFeed byte = byte ≢ line_feed

pub reads-init : goal.reads-init
reads-init g c = ([], Consumes-nil _, refl, (λ small. search rules), All-nil NoFeed)

pub returns-in_default-clause-line : goal.returns-in_default-clause-line
returns-in_default-clause-line g c =
    let (all, taken, count, kept, one) = c.reads.invariant in
    let (last, end) = c.in_ok-byte.ensures.none c.in_default.is in
    record {
      line = all;
      end = [];
      taken = Consumes-trans _ _ _ all [] taken last;
      ended = record { one = one; ends = inr (refl, end) };
      kept_of = c.line_of.ensures.kept all count kept;
      count = omega (arith, c.line_of.ensures.count, count, ap length (append-nil all));
    }

pub returns-then-byte-eq10-clause-line : goal.returns-then-byte-eq10-clause-line
returns-then-byte-eq10-clause-line g c =
    let (all, taken, count, kept, one) = c.reads.invariant in
    let byte = c.in-Some.byte in
    let took : Consumes (g.R.Read.remaining c.reads.input.inner) (g.R.Read.remaining c.next_byte.new.input.inner) (byte ∷ []) = search rules in
    let fed : byte ≡ line_feed = c.if-byte-eq10.true in
    record {
      line = all;
      end = line_feed ∷ [];
      taken = Consumes-trans _ _ _ all (line_feed ∷ []) taken (subst (λ (b : ℕ). Consumes (g.R.Read.remaining c.reads.input.inner) (g.R.Read.remaining c.next_byte.new.input.inner) (b ∷ [])) fed took);
      ended = record { one = one; ends = inl refl };
      kept_of = c.line_of-then-byte-eq10.ensures.kept all count kept;
      count = omega (arith, c.line_of-then-byte-eq10.ensures.count, count, length-append all (line_feed ∷ []));
    }

-- the read of a byte failed

pub returns-in_err-byte-clause-unread : goal.returns-in_err-byte-clause-unread
returns-in_err-byte-clause-unread g c =
    let (all, taken, count, kept, one) = c.reads.invariant in
    let p = err_from_is_err_and c.from_residual.result c.from_residual.ensures.1 in
    rw (p.1, p.2) (λ is. (all, Consumes-kept _ _ _ all taken c.in_err-byte.ensures.kept, one))

pub reads-preserved : goal.reads-preserved
reads-preserved g c =
    let (all, taken, count, kept, one) = c.reads.invariant in
    let byte = c.in-Some.byte in
    let took : Consumes (g.R.Read.remaining c.reads.input.inner) (g.R.Read.remaining c.next_byte.new.input.inner) (byte ∷ []) = search rules in
    let other : byte ≢ line_feed = search rules in
    let held : c.reads.size + 1 ≤ most_bytes → c.keep.new.bytes.items ≡ all ++ byte ∷ [] =
    λ small.
    let pushed = c.in_ok-keep.ensures.kept (omega (arith, small)) in
    pushed ∙ ap (λ (items : List ℕ). items ++ byte ∷ []) (kept (omega (arith, small))) in
    (all ++ byte ∷ [], Consumes-trans _ _ _ all (byte ∷ []) taken took, omega (arith, count, length-append all (byte ∷ [])), held, All-append NoFeed all (byte ∷ []) one (All-cons NoFeed byte [] other (All-nil NoFeed)))
