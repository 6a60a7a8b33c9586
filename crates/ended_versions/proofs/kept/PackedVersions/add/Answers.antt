use Rattle.std.proofs.Common.{◌≡◌, ◌≤ℤ◌, ◌<◌, ◌≤◌, ◌++◌, ◌∷◌, [], ◌∙◌, ℕ, ℤ, List, ap, ap₂, arith, get_or, length, map, rules, sym, subst}
use Rattle.std.specs.List.{All}
use Rattle.std.proofs.lemmas.Int.{ints}
use Rattle.std.proofs.lemmas.List.Elements.{All-push}
use Rattle.period_core.specs.Encoding.{IsColumnValue, encoded}
use Rattle.period_core.specs.declared.value.Value.{Value}
use Rattle.period_core.specs.declared.version.VersionRow.{VersionRow}
use Rattle.ended_versions.specs.Entries.{AreEntries, block_start, packed_in}
use Rattle.ended_versions.specs.Packed.{AreEndedBy, PackedVersion, ended_at, packed}
use Rattle.ended_versions.specs.declared.blocks.VersionEntry.{VersionEntry}
use Rattle.ended_versions.proofs.EntryFacts.{ComesAfter, ended_entries, one_more, packed_more}
use Rattle.ended_versions.proofs.kept.PackedVersions.add.Goals as goal

-- the entry of a version follows those that ended by its end
comes_after :
    (bytes more : List ℕ) (entries now : List VersionEntry) (entry : VersionEntry) (values : List Value) (end : ℤ) → entry.start ≡ length bytes
    → entry.end ≡ length (bytes ++ more) → more ≡ encoded values → All IsColumnValue values
    → AreEndedBy end (map (packed_in bytes) entries) → entry.to ≡ end → now ≡ entries → entry.earliest_from ≤ℤ entry.from
    → ((k : ℕ) (d : VersionEntry) → block_start (length now) ≤ k → k < length now → entry.earliest_from ≤ℤ (get_or now k d).from)
    → ComesAfter bytes more entries entry
comes_after bytes more entries now entry values end s e spelled held ended to same own others = record {
  start = s;
  end = e;
  spelled = (values, held, sym spelled);
  ended = λ k d below. subst (λ (m : ℤ). (get_or entries k d).to ≤ℤ m) (sym to) (ended_entries bytes entries end ended k d below);
  own = own;
  others = subst (λ (es : List VersionEntry). (k : ℕ) (d : VersionEntry) → block_start (length es) ≤ k → k < length es → entry.earliest_from ≤ℤ (get_or es k d).from) same others;
}

-- the list with the version at its end
made :
    (bytes more new : List ℕ) (entries left : List VersionEntry) (entry : VersionEntry) (version : VersionRow) (values : List Value) (list : List PackedVersion) (end : ℤ)
    → new ≡ bytes ++ more → left ≡ entries ++ entry ∷ [] → map (packed_in bytes) entries ≡ list → AreEntries bytes entries → ComesAfter bytes more entries entry
    → more ≡ encoded values → values ≡ version.values → entry.period ≡ version.period → entry.from ≡ version.from → entry.to ≡ end
    → map (packed_in new) left ≡ list ++ packed (ended_at end version) ∷ []
made bytes more new entries left entry version values list end grown pushed view are behind spelled its period from to =
    ap₂ (λ (bs : List ℕ) (es : List VersionEntry). map (packed_in bs) es) grown pushed
    ∙ (packed_more bytes more entries entry (packed (ended_at end version)) are behind same
    ∙ ap (λ (l : List PackedVersion). l ++ packed (ended_at end version) ∷ []) view)
  where
    same : packed (ended_at end version) ≡ record { bytes = more; period = entry.period; from = entry.from; to = entry.to }
    same =
        let coded : encoded version.values ≡ more = ap encoded (sym its) ∙ sym spelled in
        cc

pub invariant_of-self-in_default : goal.invariant_of-self-in_default
invariant_of-self-in_default c =
    let bytes : List ℕ = c.self.inside.bytes.items in
    let more : List ℕ = c.in_ok-values.values.items in
    let entries : List VersionEntry = c.self.inside.entries.items in
    let grown : c.extend_from_slice.new.self.items ≡ bytes ++ more = c.in_ok-extend_from_slice.ensures.items ∙ ap (λ (l : List ℕ). bytes ++ l) c.as_slice-2.ensures.value in
    let entry : VersionEntry = record { start = c.len-start.result; end = c.len.result; period = c.args.version.now.period; from = c.args.version.now.from; to = c.args.end; earliest_from = c.least_with.result } in
    let behind : ComesAfter bytes more entries entry =
    comes_after bytes more entries c.as_slice-3.result.now entry c.as_slice.result.now c.args.end (omega (arith, c.len-start.ensures)) (omega (arith, c.len.ensures, ap length grown)) c.in_ok-values.ensures.bytes c.in_ok-values.ensures.held
    (subst (AreEndedBy c.args.end) (sym c.self.view_is) c.requires) (search rules) c.as_slice-3.ensures.value c.least_with.ensures.own c.least_with.ensures.others in
    subst (λ (bs : List ℕ). AreEntries bs c.push.new.self.items) (sym grown)
    (subst (AreEntries (bytes ++ more)) (sym c.in_default.ensures.items) (one_more bytes more entries entry c.self.invariant behind))

pub returns-clause-ok : goal.returns-clause-ok
returns-clause-ok c =
    let bytes : List ℕ = c.self.inside.bytes.items in
    let more : List ℕ = c.in_ok-values.values.items in
    let entries : List VersionEntry = c.self.inside.entries.items in
    let grown : c.extend_from_slice.new.self.items ≡ bytes ++ more = c.in_ok-extend_from_slice.ensures.items ∙ ap (λ (l : List ℕ). bytes ++ l) c.as_slice-2.ensures.value in
    let entry : VersionEntry = record { start = c.len-start.result; end = c.len.result; period = c.args.version.now.period; from = c.args.version.now.from; to = c.args.end; earliest_from = c.least_with.result } in
    let behind : ComesAfter bytes more entries entry =
    comes_after bytes more entries c.as_slice-3.result.now entry c.as_slice.result.now c.args.end (omega (arith, c.len-start.ensures)) (omega (arith, c.len.ensures, ap length grown)) c.in_ok-values.ensures.bytes c.in_ok-values.ensures.held
    (subst (AreEndedBy c.args.end) (sym c.self.view_is) c.requires) (search rules) c.as_slice-3.ensures.value c.least_with.ensures.own c.least_with.ensures.others in
    made bytes more c.extend_from_slice.new.self.items entries c.push.new.self.items entry c.args.version.now c.as_slice.result.now c.args.self.now c.args.end grown c.in_default.ensures.items c.self.view_is c.self.invariant behind
    c.in_ok-values.ensures.bytes c.as_slice.ensures (search rules) (search rules) (search rules)

pub returns-clause-ended : goal.returns-clause-ended
returns-clause-ended c =
    let bytes : List ℕ = c.self.inside.bytes.items in
    let more : List ℕ = c.in_ok-values.values.items in
    let entries : List VersionEntry = c.self.inside.entries.items in
    let grown : c.extend_from_slice.new.self.items ≡ bytes ++ more = c.in_ok-extend_from_slice.ensures.items ∙ ap (λ (l : List ℕ). bytes ++ l) c.as_slice-2.ensures.value in
    let entry : VersionEntry = record { start = c.len-start.result; end = c.len.result; period = c.args.version.now.period; from = c.args.version.now.from; to = c.args.end; earliest_from = c.least_with.result } in
    let behind : ComesAfter bytes more entries entry =
    comes_after bytes more entries c.as_slice-3.result.now entry c.as_slice.result.now c.args.end (omega (arith, c.len-start.ensures)) (omega (arith, c.len.ensures, ap length grown)) c.in_ok-values.ensures.bytes c.in_ok-values.ensures.held
    (subst (AreEndedBy c.args.end) (sym c.self.view_is) c.requires) (search rules) c.as_slice-3.ensures.value c.least_with.ensures.own c.least_with.ensures.others in
    subst (AreEndedBy c.args.end)
    (sym (made bytes more c.extend_from_slice.new.self.items entries c.push.new.self.items entry c.args.version.now c.as_slice.result.now c.args.self.now c.args.end grown c.in_default.ensures.items c.self.view_is c.self.invariant behind
    c.in_ok-values.ensures.bytes c.as_slice.ensures (search rules) (search rules) (search rules)))
    (All-push (λ (v : PackedVersion). v.to ≤ℤ c.args.end) c.args.self.now (packed (ended_at c.args.end c.args.version.now)) c.requires (omega (arith, ints)))
