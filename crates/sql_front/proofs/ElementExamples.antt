-- Worked rows of CREATE TABLE's elements.
use Rattle.std.proofs.Common.{ℕ, List, [], ◌∷◌, ◌++◌, None, codes, refl}
use Rattle.sql_statements.specs.declared.create.TypeName.TheVariants.{Integer, Date}
use Rattle.sql_statements.specs.declared.token.TokenKind.TheVariants.{Word, Symbol}
use Rattle.sql_statements.specs.Lexemes.{Lexeme}
use Rattle.sql_statements.specs.Names.{is_plain_word}
use Rattle.sql_statements.specs.Words.{is_reserved}
use Rattle.sql_front.specs.reading.Leaves.{name_read, number_read}
use Rattle.sql_front.specs.reading.ElementReaders.{create_read, elements_read, element_read, column_element_read, not_null_read, key_element_read, reference_element_read, reference_list_read, versioning_read, without_overlaps_read, all_and_last_read, type_read, length_read, generated_read, row_end_read, one_more_name, leading_names_read, more_names_read, pair_read, some_period_read, period_element_read, system_element_read, created_table_read, key_list_read, last_period_read, parent_read, timestamp_read}
use Rattle.sql_front.specs.reading.Reading.{bounded_read}
use Rattle.sql_front.proofs.ReadGrammar.{IsCreate}
use Rattle.sql_statements.specs.declared.create.CreateTable.{CreateTable}
use Rattle.sql_front.proofs.ElementsRead.{reads_create}
use Rattle.sql_front.proofs.Whole.{whole_found}

abbrev w : List ℕ → Lexeme
w text = record { kind = Word; text = text; start = 0; end = 0 }

abbrev s : List ℕ → Lexeme
s text = record { kind = Symbol; text = text; start = 0; end = 0 }

-- CREATE TABLE t (a INTEGER NOT NULL, PRIMARY KEY (a, p WITHOUT OVERLAPS), b DATE,
abbrev first_elements : List Lexeme
first_elements =
    w (codes "CREATE") ∷ w (codes "TABLE") ∷ w (codes "t") ∷ s (codes "(") ∷
    w (codes "a") ∷ w (codes "INTEGER") ∷ w (codes "NOT") ∷ w (codes "NULL") ∷ s (codes ",") ∷
    w (codes "PRIMARY") ∷ w (codes "KEY") ∷ s (codes "(") ∷ w (codes "a") ∷ s (codes ",") ∷ w (codes "p") ∷
    w (codes "WITHOUT") ∷ w (codes "OVERLAPS") ∷ s (codes ")") ∷ s (codes ",") ∷
    w (codes "b") ∷ w (codes "DATE") ∷ s (codes ",") ∷ []

-- FOREIGN KEY (a, PERIOD p) REFERENCES u (c, PERIOD q)) WITH SYSTEM VERSIONING
abbrev last_element : List Lexeme
last_element =
    w (codes "FOREIGN") ∷ w (codes "KEY") ∷ s (codes "(") ∷ w (codes "a") ∷ s (codes ",") ∷ w (codes "PERIOD") ∷ w (codes "p") ∷ s (codes ")") ∷
    w (codes "REFERENCES") ∷ w (codes "u") ∷ s (codes "(") ∷ w (codes "c") ∷ s (codes ",") ∷ w (codes "PERIOD") ∷ w (codes "q") ∷ s (codes ")") ∷ s (codes ")") ∷
    w (codes "WITH") ∷ w (codes "SYSTEM") ∷ w (codes "VERSIONING") ∷ []

abbrev a_table : CreateTable
a_table = record {
  name = codes "T";
  columns = record { name = codes "A"; kind = Integer; generated = None }
      ∷ record { name = codes "B"; kind = Date; generated = None } ∷ [];
  periods = [];
  system_periods = [];
  keys = record { columns = codes "A" ∷ []; period = codes "P" } ∷ [];
  references = record {
    columns = codes "A" ∷ [];
    period = codes "P";
    parent = codes "U";
    parent_columns = codes "C" ∷ [];
    parent_period = codes "Q";
  } ∷ [];
}

-- the grammar has this statement, each kind of element in its list
table_spelled : IsCreate (first_elements ++ last_element) a_table
unfolding create_read created_table_read elements_read element_read column_element_read type_read timestamp_read length_read not_null_read generated_read row_end_read key_element_read key_list_read all_and_last_read without_overlaps_read reference_element_read parent_read reference_list_read last_period_read leading_names_read more_names_read one_more_name versioning_read some_period_read period_element_read system_element_read pair_read bounded_read name_read number_read is_plain_word is_reserved
table_spelled = whole_found reads_create (first_elements ++ last_element) a_table refl
