use Rattle.std.proofs.Common.{◌≡◌, ◌∙◌, ap, subst, sym, true}
use Rattle.std.specs.List.{All}
use Rattle.std.proofs.lemmas.Result.{IfErr-weaker, IfOk-weaker, err_from_is_err_and}
use Rattle.period_core.specs.declared.decoding.DecodeFault.{DecodeFault}
use Rattle.period_core.specs.declared.decoding.DecodeFault.TheVariants.{Malformed}
use Rattle.catalog_core.proofs.lemmas.bytes.DefinitionSpelling.{no_values, other_values}
use Rattle.catalog_core.specs.bytes.DefinitionEncoding.{EncodesDefinition, IsDefinitionEncoding, is_writable}
use Rattle.period_core.specs.Encoding.{IsColumnValue, encoded}
use Rattle.catalog_core.specs.bytes.DefinitionValues.{definition_values}
use Rattle.catalog_core.specs.declared.table.TableDef.{TableDef}
use Rattle.catalog_core.proofs.bytes.decode_def.Goals as goal

pub returns-in_err-values-clause-malformed : goal.returns-in_err-values-clause-malformed
returns-in_err-values-clause-malformed c =
    let p = err_from_is_err_and c.from_residual.result c.from_residual.ensures.1 in
    rw (p.1, p.2) (λ bad. no_values c.args.bytes.now (c.in_err-values.ensures.malformed bad))

pub returns-clause-malformed : goal.returns-clause-malformed
returns-clause-malformed c =
    let values = c.in_ok-values.values.items in
    let Unread : DecodeFault → Type 0 = λ fault. fault ≡ Malformed → (d : TableDef) → is_writable d ≡ true → definition_values d ≡ values → ⊥ in
    let Unspelled : DecodeFault → Type 0 = λ fault. fault ≡ Malformed → IsDefinitionEncoding c.args.bytes.now → ⊥ in
    IfErr-weaker c.read_definition.result Unread Unspelled
    (λ fault none bad encoding. other_values values c.args.bytes.now c.in_ok-values.ensures.found c.in_ok-values.ensures.held (none bad) encoding)
    (rw c.as_slice.ensures.value at c.read_definition.ensures.malformed)

pub returns-clause-found : goal.returns-clause-found
returns-clause-found c =
    let values = c.in_ok-values.values.items in
    let Read : TableDef → Type 0 = λ d. (is_writable d ≡ true) × (definition_values d ≡ values) in
    IfOk-weaker c.read_definition.result Read (λ d. EncodesDefinition d c.args.bytes.now)
    (λ d (writable, same). (writable, subst (All IsColumnValue) (sym same) c.in_ok-values.ensures.held, ap encoded same ∙ c.in_ok-values.ensures.found))
    (rw c.as_slice.ensures.value at c.read_definition.ensures.found)
