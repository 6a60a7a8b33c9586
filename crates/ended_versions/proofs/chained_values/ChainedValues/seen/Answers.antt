use Rattle.std.proofs.Common.{◌≡◌, ◌≤◌, ◌+◌, ◌++◌, ◌∙◌, ℕ, List, Option, Some, append-nil, ap, arith, length, sym, subst}
use Rattle.std.specs.Global.{Vec}
use Rattle.std.specs.Prelude.{option_to_list, slice_index_or}
use Rattle.period_core.specs.declared.version.VersionRow.{VersionRow}
use Rattle.ended_versions.specs.Chains.{IsLastPlace, behind}
use Rattle.ended_versions.specs.Hashes.{hash_of}
use Rattle.ended_versions.proofs.FoundFacts.{FoundTo, found_all, found_first, found_late, found_step}
use Rattle.ended_versions.proofs.chained_values.ChainedValues.seen.Goals as goal
use Rattle.ended_versions.proofs.chained_values.ChainedValues.seen.Goals.{in-Some-2+in_ok-push, in_default-2}

abbrev items_of : Vec VersionRow → List VersionRow
items_of v = v.items

pub loop-next-init : goal.loop-next-init
loop-next-init c =
    let all : length c.args.self.now.hashes ≡ length c.args.versions.now = c.requires.all in
    record {
      within = c.last-next.ensures.within;
      hashed = λ place d e. c.last-next.ensures.there place d e;
      found = λ list hold.
          let keys : List ℕ = c.args.self.now.hashes in
          let last : IsLastPlace keys (length keys) (hash_of c.args.key.now) c.last-next.result = subst (λ (h : ℕ). IsLastPlace keys (length keys) h c.last-next.result) c.in_ok-hash.ensures c.last-next.ensures in
          subst (FoundTo c.args.self.now.positions c.args.window c.args.key.now list c.last-next.result) (sym c.new-seen.ensures.items)
          (found_first c.args.self.now.positions c.args.versions.now keys c.requires.chained all c.args.window c.args.key.now list hold c.last-next.result last);
    }

pub loop-next-smaller : goal.loop-next-smaller
loop-next-smaller c =
    let within : behind c.before-next.result ≤ c.in-Some.place = (c.before-next.ensures 0).within in
    let at : behind c.loop-next.next ≡ c.in-Some.place + 1 = ap behind c.in-Some.is in
    omega (arith, within, at)

pub loop-next-preserved : goal.loop-next-preserved
loop-next-preserved c =
    let inv = c.loop-next.invariant in
    let all : length c.args.self.now.hashes ≡ length c.args.versions.now = c.requires.all in
    let place : ℕ = c.in-Some.place in
    let keys : List ℕ = c.args.self.now.hashes in
    let at : behind c.loop-next.next ≡ place + 1 = ap behind c.in-Some.is in
    let down : behind c.before-next.result ≤ place = (c.before-next.ensures 0).within in
    let seen : List VersionRow = c.loop-next.seen.items in
    let here : (d : ℕ) → slice_index_or keys place d ≡ hash_of c.args.key.now = λ d. inv.hashed place d c.in-Some.is ∙ c.in_ok-hash.ensures in
    let made : seen ++ option_to_list c.in_ok-version.field-0 ≡ c.match-branch-3.seen.items =
    elim c.match-branch-3.branch [
      | in-Some-2+in_ok-push w ↦ ap (λ (o : Option VersionRow). seen ++ option_to_list o) w.in-Some-2.is ∙ sym (ap items_of w.seen-is ∙ w.in_ok-push.ensures.items)
      | in_default-2 w ↦ ap (λ (o : Option VersionRow). seen ++ option_to_list o) w.in_default-2.is ∙ (append-nil seen ∙ sym (ap items_of w.seen-is))
    ] in
    record {
      within = (let was = inv.within in omega (arith, was, at, down));
      hashed = λ p d e. (c.before-next.ensures d).there p d e ∙ inv.hashed place d c.in-Some.is;
      found = λ list hold.
          let last : IsLastPlace keys place (hash_of c.args.key.now) c.before-next.result = subst (λ (h : ℕ). IsLastPlace keys place h c.before-next.result) (here 0) (c.before-next.ensures 0) in
          let so_far : FoundTo c.args.self.now.positions c.args.window c.args.key.now list (Some place) seen = subst (λ (o : Option ℕ). FoundTo c.args.self.now.positions c.args.window c.args.key.now list o seen) c.in-Some.is (inv.found list hold) in
          subst (FoundTo c.args.self.now.positions c.args.window c.args.key.now list c.before-next.result) made
          (found_step c.args.self.now.positions c.args.versions.now keys c.requires.chained all c.args.window c.args.key.now list hold place c.before-next.result seen c.in_ok-version.field-0
          (let was = inv.within in omega (arith, was, at)) here so_far last (λ d. c.in_ok-version.ensures list d hold));
    }

pub returns-then-ends_early : goal.returns-then-ends_early
returns-then-ends_early c = λ list hold.
    found_late c.args.self.now.positions c.args.versions.now c.args.self.now.hashes c.requires.chained c.requires.all c.args.window c.args.key.now list hold c.in-Some.place c.loop-next.next c.loop-next.seen.items c.in-Some.is
    (c.ends_early.ensures list hold c.if-ends_early.true) (c.loop-next.invariant.found list hold)

pub returns : goal.returns
returns c = λ list hold.
    found_all c.args.self.now.positions c.args.versions.now c.args.self.now.hashes c.requires.chained c.requires.all c.args.window c.args.key.now list hold c.loop-next.next c.loop-next.seen.items c.in_default.is (c.loop-next.invariant.found list hold)
