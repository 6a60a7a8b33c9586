-- Entries of ended versions with one more at the end, and only the first so many.
use Rattle.std.proofs.Common.{◌≡◌, ◌≤ℤ◌, ◌≤◌, ◌<◌, ◌+◌, ◌-◌, ◌++◌, ◌∷◌, [], ◌∙◌, ◌⊎◌, ℕ, ℤ, List, length, get_or, take, drop, map, refl, sym, ap, subst, inl, inr, arith}
use Rattle.std.specs.Prelude.{slice_range}
use Rattle.std.specs.List.{All}
use Rattle.std.proofs.lemmas.Bool.{cases_lt}
use Rattle.std.proofs.lemmas.Int.{ints}
use Rattle.std.proofs.lemmas.List.{drop-append-le, drop_at, get_or-map, get_or_default, get_or-take, get_or_append_left, get_or_push, length-append, length-drop, length-map, length-take-le, length_push, map_push, take-append-drop, take-append-le, take-map, take_all}
use Rattle.std.proofs.lemmas.List.Elements.{All-head, All-push, All-tail, All-weaker}
use Rattle.std.proofs.lemmas.List.Quantifiers.{all_pairs_push}
use Rattle.period_core.specs.Encoding.{IsEncoding}
use Rattle.ended_versions.specs.Entries.{AreEntries, IsKept, KnowLeast, Precedes, block_start, packed_in}
use Rattle.ended_versions.specs.Packed.{AreEndedBy, PackedVersion}
use Rattle.ended_versions.specs.declared.blocks.VersionEntry.{VersionEntry}

-- ---- more bytes at the end

-- a part of the first list is the same in both
pub same_part : (bytes more : List ℕ) (start end : ℕ) → start ≤ end → end ≤ length bytes → slice_range (bytes ++ more) start end ≡ slice_range bytes start end
same_part bytes more start end forward within =
    ap (take (end - start)) (drop-append-le start bytes more (omega arith))
    ∙ take-append-le (end - start) (drop start bytes) more (omega (arith, length-drop start bytes))

-- the second list is the last part of both
pub last_part : (bytes more : List ℕ) → slice_range (bytes ++ more) (length bytes) (length (bytes ++ more)) ≡ more
last_part bytes more =
    ap (take (length (bytes ++ more) - length bytes)) (drop_at bytes more (length bytes) refl)
    ∙ take_all (length (bytes ++ more) - length bytes) more (omega (arith, length-append bytes more))

kept_on : (bytes more : List ℕ) (entry : VersionEntry) → IsKept bytes entry → IsKept (bytes ++ more) entry
kept_on bytes more entry kept = record {
  forward = kept.forward;
  within = omega (arith, length-append bytes more, kept.within);
  spelled = subst IsEncoding (sym (same_part bytes more entry.start entry.end kept.forward kept.within)) kept.spelled;
}

-- bytes that are appended leave the version of each entry as it was
same_on : (bytes more : List ℕ) (entries : List VersionEntry) → All (IsKept bytes) entries → map (packed_in (bytes ++ more)) entries ≡ map (packed_in bytes) entries
same_on bytes more [] kept = refl
same_on bytes more (e ∷ es) kept =
    let first : IsKept bytes e = All-head (IsKept bytes) e es kept in
    let one : packed_in (bytes ++ more) e ≡ packed_in bytes e =
    ap (λ (part : List ℕ). let p : PackedVersion = record { bytes = part; period = e.period; from = e.from; to = e.to } in p) (same_part bytes more e.start e.end first.forward first.within) in
    ap (λ p. p ∷ map (packed_in (bytes ++ more)) es) one
    ∙ ap (λ ps. packed_in bytes e ∷ ps) (same_on bytes more es (All-tail (IsKept bytes) e es kept))

-- ---- one more entry

-- the entry may come after these: its bytes are those after theirs, none of them ended later, and
-- none of its block begins before its `earliest_from`
pub record ComesAfter (bytes more : List ℕ) (entries : List VersionEntry) (entry : VersionEntry) : Type 0 where
  pub start : entry.start ≡ length bytes
  pub end : entry.end ≡ length (bytes ++ more)
  pub spelled : IsEncoding more
  pub ended : (k : ℕ) (d : VersionEntry) → k < length entries → (get_or entries k d).to ≤ℤ entry.to
  pub own : entry.earliest_from ≤ℤ entry.from
  pub others : (k : ℕ) (d : VersionEntry) → block_start (length entries) ≤ k → k < length entries → entry.earliest_from ≤ℤ (get_or entries k d).from

last_bytes : (bytes more : List ℕ) (entry : VersionEntry) → entry.start ≡ length bytes → entry.end ≡ length (bytes ++ more) → slice_range (bytes ++ more) entry.start entry.end ≡ more
last_bytes bytes more entry s e =
    ap (λ n. slice_range (bytes ++ more) n entry.end) s
    ∙ (ap (slice_range (bytes ++ more) (length bytes)) e ∙ last_part bytes more)

kept_last : (bytes more : List ℕ) (entries : List VersionEntry) (entry : VersionEntry) → ComesAfter bytes more entries entry → IsKept (bytes ++ more) entry
kept_last bytes more entries entry comes = record {
  forward = omega (arith, comes.start, comes.end, length-append bytes more);
  within = omega (arith, comes.end);
  spelled = subst IsEncoding (sym (last_bytes bytes more entry comes.start comes.end)) comes.spelled;
}

least_more : (entries : List VersionEntry) (entry : VersionEntry) → KnowLeast entries → entry.earliest_from ≤ℤ entry.from
    → ((k : ℕ) (d : VersionEntry) → block_start (length entries) ≤ k → k < length entries → entry.earliest_from ≤ℤ (get_or entries k d).from)
    → KnowLeast (entries ++ entry ∷ [])
least_more entries entry earliest_from own others = λ last place d from upto below.
    let size : length (entries ++ entry ∷ []) ≡ length entries + 1 = length_push entries entry in
    go last place d from upto (omega arith) (cases_lt last (length entries)) (cases_lt place (length entries))
  where
    Known : VersionEntry → VersionEntry → Type 0
    Known a b = a.earliest_from ≤ℤ b.from

    both : (a b c e : VersionEntry) → a ≡ c → b ≡ e → Known c e → Known a b
    both a b c e p q h = subst (λ z. Known z b) (sym p) (subst (Known c) (sym q) h)

    go : (last place : ℕ) (d : VersionEntry) → block_start last ≤ place → place ≤ last → last ≤ length entries
        → (last < length entries) ⊎ (length entries ≤ last) → (place < length entries) ⊎ (length entries ≤ place)
        → Known (get_or (entries ++ entry ∷ []) last d) (get_or (entries ++ entry ∷ []) place d)
    go last place d from upto below (inl before) at =
        both _ _ _ _ (get_or_append_left entries (entry ∷ []) d last before) (get_or_append_left entries (entry ∷ []) d place (omega arith))
        (earliest_from last place d from upto before)
    go last place d from upto below (inr behind) (inl before) =
        let e : last ≡ length entries = omega arith in
        both _ _ _ _ (get_or_push entries entry d last (sym e)) (get_or_append_left entries (entry ∷ []) d place before)
        (others place d (subst (λ n. block_start n ≤ place) e from) before)
    go last place d from upto below (inr behind) (inr too) =
        both _ _ _ _ (get_or_push entries entry d last (omega arith)) (get_or_push entries entry d place (omega arith)) own

pub one_more : (bytes more : List ℕ) (entries : List VersionEntry) (entry : VersionEntry) → AreEntries bytes entries → ComesAfter bytes more entries entry → AreEntries (bytes ++ more) (entries ++ entry ∷ [])
one_more bytes more entries entry are comes = record {
  kept = All-push (IsKept (bytes ++ more)) entries entry (All-weaker (IsKept bytes) (IsKept (bytes ++ more)) (kept_on bytes more) entries are.kept) (kept_last bytes more entries entry comes);
  ordered = all_pairs_push Precedes entries entry are.ordered (λ k d below. record { ended = comes.ended k d below; apart = omega (arith, (are.kept k d below).within, comes.start) });
  earliest_from = least_more entries entry are.earliest_from comes.own comes.others;
}

pub packed_more :
    (bytes more : List ℕ) (entries : List VersionEntry) (entry : VersionEntry) (version : PackedVersion) → AreEntries bytes entries
    → ComesAfter bytes more entries entry
    → version ≡ record { bytes = more; period = entry.period; from = entry.from; to = entry.to }
    → map (packed_in (bytes ++ more)) (entries ++ entry ∷ []) ≡ map (packed_in bytes) entries ++ version ∷ []
packed_more bytes more entries entry version are comes is =
    map_push (packed_in (bytes ++ more)) entries entry
    ∙ (ap (λ ps. ps ++ packed_in (bytes ++ more) entry ∷ []) (same_on bytes more entries are.kept)
    ∙ ap (λ p. map (packed_in bytes) entries ++ p ∷ []) (one ∙ sym is))
  where
    one : packed_in (bytes ++ more) entry ≡ record { bytes = more; period = entry.period; from = entry.from; to = entry.to }
    one = ap (λ (part : List ℕ). let p : PackedVersion = record { bytes = part; period = entry.period; from = entry.from; to = entry.to } in p) (last_bytes bytes more entry comes.start comes.end)

-- ---- the first so many

part_before : (bytes : List ℕ) (n start end : ℕ) → start ≤ end → end ≤ n → n ≤ length bytes → slice_range (take n bytes) start end ≡ slice_range bytes start end
part_before bytes n start end forward within inside =
    let size : length (take n bytes) ≡ n = length-take-le n bytes inside in
    sym (same_part (take n bytes) (drop n bytes) start end forward (omega arith))
    ∙ ap (λ (bs : List ℕ). slice_range bs start end) (take-append-drop n bytes)

pub record AreFirst (bytes : List ℕ) (entries : List VersionEntry) (n count : ℕ) : Type 0 where
  pub are : AreEntries bytes entries
  pub fewer : count < length entries
  pub bytes_of : (d : VersionEntry) → n ≡ (get_or entries count d).start

kept_first : (bytes : List ℕ) (entries : List VersionEntry) (n count : ℕ) → AreFirst bytes entries n count → (k : ℕ) (d : VersionEntry) → k < count → IsKept (take n bytes) (get_or entries k d)
kept_first bytes entries n count first k d below =
    let mine : IsKept bytes (get_or entries k d) = first.are.kept k d (omega (arith, first.fewer)) in
    let next : IsKept bytes (get_or entries count d) = first.are.kept count d first.fewer in
    let apart : Precedes (get_or entries k d) (get_or entries count d) = first.are.ordered k count d below first.fewer in
    let inside : n ≤ length bytes = omega (arith, first.bytes_of d, next.forward, next.within) in
    let upto : (get_or entries k d).end ≤ n = omega (arith, first.bytes_of d, apart.apart) in
    record {
      forward = mine.forward;
      within = omega (arith, length-take-le n bytes inside);
      spelled = subst IsEncoding (sym (part_before bytes n (get_or entries k d).start (get_or entries k d).end mine.forward upto inside)) mine.spelled;
    }

pub first_ones : (bytes : List ℕ) (entries : List VersionEntry) (n count : ℕ) → AreFirst bytes entries n count → AreEntries (take n bytes) (take count entries)
first_ones bytes entries n count first =
    let size : length (take count entries) ≡ count = length-take-le count entries (omega (arith, first.fewer)) in
    record {
      kept = λ k d below. subst (IsKept (take n bytes)) (sym (get_or-take count entries k d (omega arith))) (kept_first bytes entries n count first k d (omega arith));
      ordered = λ i j d lt below. pair Precedes entries count i j d (omega arith) (omega arith) (first.are.ordered i j d lt (omega (arith, first.fewer)));
      earliest_from = λ last place d from upto below. pair (λ b a. a.earliest_from ≤ℤ b.from) entries count place last d (omega arith) (omega arith) (first.are.earliest_from last place d from upto (omega (arith, first.fewer)));
    }
  where
    pair : (R : VersionEntry → VersionEntry → Type 0) (xs : List VersionEntry) (n i j : ℕ) (d : VersionEntry) → i < n → j < n → R (get_or xs i d) (get_or xs j d) → R (get_or (take n xs) i d) (get_or (take n xs) j d)
    pair R xs n i j d p q h = subst (λ z. R z (get_or (take n xs) j d)) (sym (get_or-take n xs i d p)) (subst (R (get_or xs i d)) (sym (get_or-take n xs j d q)) h)

pub packed_first : (bytes : List ℕ) (entries : List VersionEntry) (n count : ℕ) → AreFirst bytes entries n count → map (packed_in (take n bytes)) (take count entries) ≡ take count (map (packed_in bytes) entries)
packed_first bytes entries n count first =
    let size : length (take count entries) ≡ count = length-take-le count entries (omega (arith, first.fewer)) in
    sym (same_on (take n bytes) (drop n bytes) (take count entries) (first_ones bytes entries n count first).kept)
    ∙ (ap (λ (bs : List ℕ). map (packed_in bs) (take count entries)) (take-append-drop n bytes)
    ∙ sym (take-map (packed_in bytes) count entries))

-- ---- the least of a block

-- one block more at the front
pub least_on :
    (entries : List VersionEntry) (entry : VersionEntry) (earliest_from now : ℤ) (place next : ℕ) → KnowLeast entries → 0 < place → place ≤ length entries
    → entry ≡ get_or entries (place - 1) entry → next ≡ block_start (place - 1) → now ≤ℤ entry.earliest_from → now ≤ℤ earliest_from
    → ((k : ℕ) (d : VersionEntry) → place ≤ k → k < length entries → earliest_from ≤ℤ (get_or entries k d).from)
    → (k : ℕ) (d : VersionEntry) → next ≤ k → k < length entries → now ≤ℤ (get_or entries k d).from
least_on entries entry earliest_from now place next known some inside is start by_entry by_least others k d from below =
    elim (cases_lt k place) [
      | inl before ↦
          let its : (get_or entries (place - 1) d).earliest_from ≤ℤ (get_or entries k d).from = known (place - 1) k d (subst (λ n. n ≤ k) start from) (omega arith) (omega arith) in
          let same : get_or entries (place - 1) d ≡ entry = get_or_default entries (place - 1) d entry (omega arith) ∙ sym is in
          let mine : entry.earliest_from ≤ℤ (get_or entries k d).from = subst (λ (e : VersionEntry). e.earliest_from ≤ℤ (get_or entries k d).from) same its in
          omega (arith, ints)
      | inr behind ↦ let other = others k d behind below in omega (arith, ints)
    ]

-- ---- facts of versions, as facts of their entries

pub ended_entries : (bytes : List ℕ) (entries : List VersionEntry) (moment : ℤ) → AreEndedBy moment (map (packed_in bytes) entries) → (k : ℕ) (d : VersionEntry) → k < length entries → (get_or entries k d).to ≤ℤ moment
ended_entries bytes entries moment ended k d below =
    subst (λ (p : PackedVersion). p.to ≤ℤ moment) (get_or-map (packed_in bytes) entries k d (packed_in bytes d) below)
    (ended k (packed_in bytes d) (omega (arith, length-map entries (packed_in bytes))))
