-- The text of entries, one after the other.
use Rattle.std.proofs.Common.{◌≡◌, ◌+◌, ◌∷◌, ◌++◌, ℕ, List, [], length, refl, arith, append_assoc}
use Rattle.std.proofs.lemmas.List.{append-nil}
use Rattle.statement_reports.specs.AuditedReport.{entries_from, entry_text}
use Rattle.statement_reports.specs.declared.entry.Entry.{Entry}

-- the text of a list that ends in one more entry
pub entries-more : (n k : ℕ) (entries : List Entry) (entry : Entry) → n + length entries ≡ k → entries_from n (entries ++ entry ∷ []) ≡ entries_from n entries ++ entry_text k entry
entries-more n k [] entry e =
    let same : n ≡ k = omega arith in
    rw (same, append-nil (entry_text k entry)) refl
entries-more n k (first ∷ rest) entry e =
    let next : (n + 1) + length rest ≡ k = omega arith in
    rw (entries-more (n + 1) k rest entry next, append_assoc (entry_text n first) (entries_from (n + 1) rest) (entry_text k entry)) refl
