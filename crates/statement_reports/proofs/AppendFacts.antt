-- Calls that append, one after the other.
use Rattle.std.proofs.Common.{◌≡◌, ◌⊎◌, ◌+◌, ◌<◌, ◌≤◌, ◌∷◌, ◌++◌, ◌∙◌, ℕ, List, [], Option, Result, Ok, inl, inr, length, map, flat_map, get_or, take, refl, ap, sym, subst, arith, append_assoc}
use Rattle.std.specs.Io.KnownBytes.{Appends}
use Rattle.std.specs.List.{zip}
use Rattle.std.proofs.lemmas.List.{append-nil, map-append, take_all, take_more}
use Rattle.std.proofs.lemmas.List.Concat.{flat_map-append}
use Rattle.csv.proofs.WriteFacts.{appends-more}
use Rattle.period_core.specs.declared.answer.Answer.{Answer}
use Rattle.period_core.specs.declared.answer.Witness.{Witness}
use Rattle.period_core.specs.declared.refusal.Refusal.{Refusal}
use Rattle.period_core.specs.declared.row.PeriodRow.{PeriodRow}
use Rattle.period_core.specs.declared.version.VersionRow.{VersionRow}
use Rattle.statement_reports.specs.Report.{answer_record, columns_record, names_record, record_text, report_from, row_record, text_of, version_record, versions_record}
use Rattle.statement_reports.specs.declared.outcome.Outcome.{Outcome}
use Rattle.statement_reports.specs.declared.outcome.Outcome.TheVariants as outcome
use Rattle.statement_reports.specs.declared.outcome.VersionColumn.{VersionColumn}
use Rattle.statement_reports.specs.declared.outcome.VersionList.{VersionList}

-- the text of a list that ends in one more result
pub report-more : (n k : ℕ) (results : List (Result Outcome Refusal)) (result : Result Outcome Refusal) → n + length results ≡ k → report_from n (results ++ result ∷ []) ≡ report_from n results ++ text_of k result
report-more n k [] result e =
    let same : n ≡ k = omega arith in
    rw (same, append-nil (text_of k result)) refl
report-more n k (first ∷ rest) result e =
    let next : (n + 1) + length rest ≡ k = omega arith in
    rw (report-more (n + 1) k rest result next, append_assoc (text_of n first) (report_from (n + 1) rest) (text_of k result)) refl

-- the text of the rows and witnesses
abbrev pub rows_text : ℕ → List PeriodRow → List Witness → List ℕ
rows_text n rows witnesses = flat_map record_text (map (row_record n) (zip rows witnesses))

-- a part of the whole text was appended, and the rest is still to come
pub record IsLeft (old new : Option (List ℕ)) (rest whole : List ℕ) : Type 0 where
  pub written : List ℕ
  pub appends : Appends old new written
  pub whole_is : written ++ rest ≡ whole

-- the report of an answer before its first row
pub rows-start : (n : ℕ) (answer : Answer) (old mid new : Option (List ℕ)) (rows : List PeriodRow) (witnesses : List Witness)
    → rows ≡ answer.rows → witnesses ≡ answer.witnesses
    → Appends old mid (record_text (answer_record n answer)) → Appends mid new (record_text (columns_record n answer.columns))
    → IsLeft old new (rows_text n rows witnesses) (text_of n (Ok (outcome.Answer answer)))
rows-start n answer old mid new rows witnesses same beside first second = record {
  written = record_text (answer_record n answer) ++ record_text (columns_record n answer.columns);
  appends = appends-more old mid new (record_text (answer_record n answer)) (record_text (columns_record n answer.columns)) first second;
  whole_is = rw (same, beside) (append_assoc (record_text (answer_record n answer)) (record_text (columns_record n answer.columns)) (rows_text n answer.rows answer.witnesses));
}

-- the report of an answer, with one row more
pub rows-step : (n : ℕ) (old mid new : Option (List ℕ)) (whole : List ℕ) (row : PeriodRow) (witness : Witness) (rows next : List PeriodRow) (witnesses after : List Witness)
    → rows ≡ row ∷ next → witnesses ≡ witness ∷ after
    → IsLeft old mid (rows_text n rows witnesses) whole → Appends mid new (record_text (row_record n (row, witness)))
    → IsLeft old new (rows_text n next after) whole
rows-step n old mid new whole row witness rows next witnesses after e f left more =
    let is = rw (e, f) at left.whole_is in
    record {
      written = left.written ++ record_text (row_record n (row, witness));
      appends = appends-more old mid new left.written (record_text (row_record n (row, witness))) left.appends more;
      whole_is = append_assoc left.written (record_text (row_record n (row, witness))) (rows_text n next after) ∙ is;
    }

no-rows : (n : ℕ) (rows : List PeriodRow) → rows_text n rows [] ≡ []
no-rows n [] = refl
no-rows n (row ∷ rows) = refl

-- the report of an answer after its last row
pub rows-end : (n : ℕ) (old new : Option (List ℕ)) (whole : List ℕ) (rows : List PeriodRow) (witnesses : List Witness)
    → (rows ≡ []) ⊎ (witnesses ≡ []) → IsLeft old new (rows_text n rows witnesses) whole → Appends old new whole
rows-end n old new whole rows witnesses (inl e) left =
    let is = rw (e, append-nil left.written) at left.whole_is in
    rw (← is) left.appends
rows-end n old new whole rows witnesses (inr e) left =
    let is = rw (e, no-rows n rows, append-nil left.written) at left.whole_is in
    rw (← is) left.appends

-- ---- lists of versions

-- the text of a list of versions, with these columns, up to some of its versions
abbrev pub versions_text : ℕ → VersionList → List VersionColumn → List VersionRow → List ℕ
versions_text n list columns rows =
    (record_text (versions_record n list) ++ record_text (names_record n columns)) ++ flat_map record_text (map (version_record n columns) rows)

-- the report of versions before the first one
pub versions-start : (n : ℕ) (list : VersionList) (columns : List VersionColumn) (old mid new : Option (List ℕ)) → Appends old mid (record_text (versions_record n list)) → Appends mid new (record_text (names_record n columns)) →
    Appends old new (versions_text n list columns [])
versions-start n list columns old mid new first second =
    let heads : List ℕ = record_text (versions_record n list) ++ record_text (names_record n columns) in
    rw (append-nil heads) (appends-more old mid new (record_text (versions_record n list)) (record_text (names_record n columns)) first second)

-- the report of versions, with one more
pub versions-step : (n : ℕ) (list : VersionList) (columns : List VersionColumn) (rows : List VersionRow) (place : ℕ) (row : VersionRow) (old mid new : Option (List ℕ)) → place < length rows → row ≡ get_or rows place row →
    Appends old mid (versions_text n list columns (take place rows)) → Appends mid new (record_text (version_record n columns row)) → Appends old new (versions_text n list columns (take (place + 1) rows))
versions-step n list columns rows place row old mid new inside its so_far more =
    let shown : VersionRow → List (List ℕ) = version_record n columns in
    let heads : List ℕ = record_text (versions_record n list) ++ record_text (names_record n columns) in
    let these : List ℕ = flat_map record_text (map shown (take place rows)) in
    let it : List ℕ = record_text (shown row) in
    let all : flat_map record_text (map shown (take (place + 1) rows)) ≡ these ++ it =
    ap (λ (l : List VersionRow). flat_map record_text (map shown l)) (take_more rows place row inside ∙ ap (λ (r : VersionRow). take place rows ++ r ∷ []) (sym its))
    ∙ ap (flat_map record_text) (map-append shown (take place rows) (row ∷ []))
    ∙ flat_map-append record_text (map shown (take place rows)) (shown row ∷ [])
    ∙ ap (λ (l : List ℕ). these ++ l) (append-nil it) in
    let whole : versions_text n list columns (take place rows) ++ it ≡ versions_text n list columns (take (place + 1) rows) =
    append_assoc heads these it ∙ ap (λ (l : List ℕ). heads ++ l) (sym all) in
    subst (Appends old new) whole (appends-more old mid new (versions_text n list columns (take place rows)) it so_far more)

-- the report of versions after the last one
pub versions-end : (n : ℕ) (list : VersionList) (columns : List VersionColumn) (rows : List VersionRow) (place : ℕ) (old new : Option (List ℕ)) → columns ≡ list.columns → rows ≡ list.rows → length rows ≤ place →
    Appends old new (versions_text n list columns (take place rows)) → Appends old new (text_of n (Ok (outcome.Versions list)))
versions-end n list columns rows place old new same these over so_far =
    let heads : List ℕ = record_text (versions_record n list) ++ record_text (names_record n list.columns) in
    let whole : versions_text n list columns (take place rows) ≡ text_of n (Ok (outcome.Versions list)) =
    ap (versions_text n list columns) (take_all place rows over ∙ these)
    ∙ ap (λ (c : List VersionColumn). versions_text n list c list.rows) same
    ∙ append_assoc (record_text (versions_record n list)) (record_text (names_record n list.columns)) (flat_map record_text (map (version_record n list.columns) list.rows)) in
    subst (Appends old new) whole so_far
