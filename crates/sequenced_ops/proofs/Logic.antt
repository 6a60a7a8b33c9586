-- Facts of plain logic, for the steps of the loops.
use Rattle.std.proofs.Common.{◌↔◌, ◌⊎◌, inl, inr, Result, Ok, Err, IfOk, OnOk}

-- a part of an or is replaced by an equivalent one
pub part_same : {A B C T : Type 0} → ((A ⊎ B) ↔ T) → (B ↔ C) → ((A ⊎ C) ↔ T)
part_same h same = (
  λ x. h.0 (elim x [ inl a ↦ inl a | inr c ↦ inr (same.1 c) ]),
  λ t. elim (h.1 t) [ inl a ↦ inl a | inr b ↦ inr (same.0 b) ],
)

-- a first part F moves over
pub part_moved : {A D B C F T : Type 0} → ((A ⊎ B) ↔ T) → (D ↔ (A ⊎ F)) → (B ↔ (F ⊎ C)) → ((D ⊎ C) ↔ T)
part_moved h more split = (
  λ x. h.0 (elim x [
    | inl d ↦ elim (more.0 d) [ inl a ↦ inl a | inr f ↦ inr (split.1 (inl f)) ]
    | inr c ↦ inr (split.1 (inr c))
  ]),
  λ t. elim (h.1 t) [
    | inl a ↦ inl (more.1 (inl a))
    | inr b ↦ elim (split.0 b) [ inl f ↦ inl (more.1 (inr f)) | inr c ↦ inr c ]
  ],
)

-- an or whose second part is replaced by all that is left
pub all_moved : {A D B F T : Type 0} → ((A ⊎ B) ↔ T) → (D ↔ (A ⊎ F)) → (B ↔ F) → (D ↔ T)
all_moved h more same = (
  λ d. h.0 (elim (more.0 d) [ inl a ↦ inl a | inr f ↦ inr (same.1 f) ]),
  λ t. more.1 (elim (h.1 t) [ inl a ↦ inl a | inr b ↦ inr (same.0 b) ]),
)

-- an or whose second part is false is its first part
pub none_left : {A B T : Type 0} → ((A ⊎ B) ↔ T) → (B → ⊥) → (A ↔ T)
none_left h none = (
  λ a. h.0 (inl a),
  λ t. elim (h.1 t) [ inl a ↦ a | inr b ↦ absurd (none b) ],
)

-- an or whose first part is false is its second part
pub none_before : {A B T : Type 0} → (A → ⊥) → (B ↔ T) → ((A ⊎ B) ↔ T)
none_before none h = (
  λ x. elim x [ inl a ↦ absurd (none a) | inr b ↦ h.0 b ],
  λ t. inr (h.1 t),
)

pub if_ok_weaker : {T E : Type 0} (r : Result T E) (P Q : T → Type 0) → ((x : T) → P x → Q x) → IfOk r P → IfOk r Q
if_ok_weaker (Ok x) P Q step p = step x p
if_ok_weaker (Err e) P Q step p = tt

pub on_ok_weaker : {T E : Type 0} (r : Result T E) (P Q : Type 0) → (P → Q) → OnOk r P → OnOk r Q
on_ok_weaker (Ok x) P Q step p = step p
on_ok_weaker (Err e) P Q step p = tt
