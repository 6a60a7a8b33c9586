-- The law of the bytes of definitions. It is the contract of a function of this crate.
use Rattle.std.specs.Prelude.{◌≡◌, ℕ, List}
use Rattle.catalog_core.specs.bytes.DefinitionEncoding.{EncodesDefinition}
use Rattle.catalog_core.specs.declared.table.TableDef.{TableDef}

-- definitions with the same bytes are the same definition
abbrev pub DefinitionReadsBack : Type 0
DefinitionReadsBack =
    (a b : TableDef) (bytes : List ℕ)
    → EncodesDefinition a bytes → EncodesDefinition b bytes → a ≡ b
