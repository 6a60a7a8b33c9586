-- The text of csv's writer, set up as the report's, is the text of the report's records.
use Rattle.std.proofs.Common.{◌≡◌, ◌==◌, ◌≤◌, ◌∷◌, ℕ, Bool, true, false, List, [], length, refl, ◌∙◌, append_assoc, arith}
use Rattle.std.specs.Prelude.{◌||◌}
use Rattle.std.specs.List.{list_any}
use Rattle.csv.specs.Writing.{default_writer, escaped, fields_text, is_blank, needs_byte, row_text, with_flexible, field_text as csv_field_text}
use Rattle.csv.specs.declared.writer.WriterBuilder.{WriterBuilder}
use Rattle.statement_reports.specs.Report.{calls_for_quotes, doubled, field_text, more_fields, record_text}

-- records of any lengths, and else csv's defaults
abbrev pub report_writer : WriterBuilder
report_writer = with_flexible default_writer true

or-false : (a : Bool) → (a || false) ≡ a
or-false true = refl
or-false false = refl

or-assoc : (a b c : Bool) → (a || (b || c)) ≡ ((a || b) || c)
or-assoc true b c = refl
or-assoc false b c = refl

byte-same : (b : ℕ) → needs_byte report_writer b ≡ calls_for_quotes b
byte-same b = or-false _ ∙ or-false _ ∙ or-assoc ((b == 44) || (b == 34)) (b == 13) (b == 10)

any-same : (field : List ℕ) → list_any (needs_byte report_writer) field ≡ list_any calls_for_quotes field
any-same [] = refl
any-same (b ∷ rest) = rw (byte-same b, any-same rest) refl

escaped-same : (field : List ℕ) → escaped report_writer field ≡ doubled field
unfolding escaped doubled
escaped-same [] = refl
escaped-same (b ∷ rest) = rw (escaped-same rest) refl

pub field-same : (field : List ℕ) → csv_field_text report_writer field ≡ field_text field
field-same field = rw (any-same field, escaped-same field) refl

more-same : (fields : List (List ℕ)) → fields_text report_writer fields ≡ more_fields fields
unfolding fields_text more_fields
more-same [] = refl
more-same (field ∷ rest) = rw (field-same field, more-same rest) refl

pub row-same : (fields : List (List ℕ)) → 2 ≤ length fields → row_text report_writer fields ≡ record_text fields
unfolding is_blank record_text
row-same [] h = absurd (omega arith)
row-same (field ∷ []) h = absurd (omega arith)
row-same (field ∷ next ∷ rest) h = rw (field-same field, more-same (next ∷ rest)) (append_assoc (field_text field) (more_fields (next ∷ rest)) (10 ∷ []))
