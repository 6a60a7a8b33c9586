-- The map from the rows of a certified list to the rows of an equivalent list, which sends no two rows to one.
use Rattle.std.proofs.Common.{◌≡◌, ℕ, zero, suc, [], ◌∷◌, ◌<◌, List, length, get_or, refl, sym, ◌∙◌, subst, inl, inr, arith}
use Rattle.std.specs.List.{Contains}
use Rattle.std.proofs.lemmas.List.{get_or_default}
use Rattle.std.proofs.lemmas.Bool.{cases_lt}
use Rattle.period_core.specs.declared.row.PeriodRow.{PeriodRow}
use Rattle.temporal_model.specs.Snapshot.{Equivalent}
use Rattle.temporal_model.specs.Answer.{IsCertified, SameBeginning}
use Rattle.temporal_model.specs.Laws.{MapsOneToOne}
use Rattle.temporal_model.proofs.Certificate.{begins_in}

-- a place within a list has a row
row_at : {X : Type 0} (xs : List X) (i : ℕ) → i < length xs → (x : X) × (x ≡ get_or xs i x)
row_at [] i h = absurd (omega arith)
row_at (x ∷ xs) zero h = (x, refl)
row_at (x ∷ xs) (suc i) h = row_at xs i (omega arith)

-- the map from the rows of a certified list to the rows of an equivalent one
pub maps_one_to_one :
    (rows others : List PeriodRow) → IsCertified rows → Equivalent rows others
    → MapsOneToOne rows others
maps_one_to_one rows others certified same = record {
  place = λ i h. (sent i h).1.0;
  inside = λ i h. (sent i h).1.1;
  begins = λ i h d. begins i h d;
  one_to_one = λ i j h k one. elim (cases_lt i j) [
    | inl before ↦ absurd (both i j h k before one)
    | inr not_before ↦ elim (cases_lt j i) [
      | inl after ↦ absurd (both j i k h after (sym one))
      | inr not_after ↦ omega arith
    ]
  ];
} where
  mine : (i : ℕ) → i < length rows → PeriodRow
  mine i h = (row_at rows i h).0

  member : (i : ℕ) (h : i < length rows) → Contains rows (mine i h)
  member i h = (i, h, sym (row_at rows i h).1)

  sent : (i : ℕ) (h : i < length rows) → (other : PeriodRow) × Contains others other × SameBeginning (mine i h) other
  sent i h = begins_in rows others certified same (mine i h) (member i h)

  begins : (i : ℕ) (h : i < length rows) (d : PeriodRow) → SameBeginning (get_or rows i d) (get_or others (sent i h).1.0 d)
  begins i h d =
      let left : mine i h ≡ get_or rows i d = (row_at rows i h).1 ∙ get_or_default rows i (mine i h) d h in
      let other : PeriodRow = (sent i h).0 in
      let right : other ≡ get_or others (sent i h).1.0 d = sym (sent i h).1.2 ∙ get_or_default others (sent i h).1.0 other d (sent i h).1.1 in
      subst (λ x. SameBeginning x (get_or others (sent i h).1.0 d)) left (subst (SameBeginning (mine i h)) right (sent i h).2)

  both : (i j : ℕ) (h : i < length rows) (k : j < length rows) → i < j → (sent i h).1.0 ≡ (sent j k).1.0 → ⊥
  both i j h k before one =
      let d : PeriodRow = mine i h in
      let a = begins i h d in
      let b = subst (λ n. SameBeginning (get_or rows j d) (get_or others n d)) (sym one) (begins j k d) in
      certified.distinct i j d before k (a.0 ∙ sym b.0, a.1 ∙ sym b.1)
