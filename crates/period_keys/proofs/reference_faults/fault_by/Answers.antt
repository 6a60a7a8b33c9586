use Rattle.std.proofs.Common.{◌≡◌, ◌∙◌, ℕ, List, Some, sym}
use Rattle.std.specs.Prelude.{Contains}
use Rattle.catalog_core.specs.table.TableWords.{table_of}
use Rattle.catalog_core.specs.declared.table.Reference.{Reference}
use Rattle.catalog_core.specs.declared.table.TableDef.{TableDef}
use Rattle.period_keys.specs.Lawful.{Refers}
use Rattle.period_keys.proofs.ReferenceFacts.{fault_by_parent, fault_elsewhere}
use Rattle.period_keys.proofs.reference_faults.fault_by.Goals as goal

-- the table that a reference refers to
refers_to : (definitions : List TableDef) (number : ℕ) (child : TableDef) (reference : Reference) (parent : TableDef) → table_of definitions number ≡ Some child → Contains child.references reference
    → table_of definitions reference.parent ≡ Some parent → Refers definitions number child reference parent
refers_to definitions number child reference parent is there parent_is = record { is_child = is; is_reference = there; is_parent = parent_is }

pub fault_from-requires : goal.fault_from-requires
fault_from-requires c =
    c.requires.indexed c.args.number c.args.child.now c.requires.child c.args.reference.now c.in-Some.parent.now c.requires.reference c.in-Some.ensures

pub returns-then-number-from : goal.returns-then-number-from
returns-then-number-from c = λ before change is known.
    fault_by_parent c.args.definitions.now before change c.args.number c.args.child.now c.args.reference.now c.in-Some.parent.now c.in_ok-found.found c.in-Some.ensures
    (c.in_ok-found.ensures c.args.definitions.now before change known
    (refers_to c.args.definitions.now c.args.number c.args.child.now c.args.reference.now c.in-Some.parent.now c.requires.child c.requires.reference c.in-Some.ensures)
    (c.if-number-from.true ∙ c.from.ensures ∙ sym is))

pub fault_to-requires : goal.fault_to-requires
fault_to-requires c =
    c.requires.indexed c.args.number c.args.child.now c.requires.child c.args.reference.now c.in-Some.parent.now c.requires.reference c.in-Some.ensures

pub returns-then-reference-changed : goal.returns-then-reference-changed
returns-then-reference-changed c = λ before change is known.
    fault_by_parent c.args.definitions.now before change c.args.number c.args.child.now c.args.reference.now c.in-Some.parent.now c.in_ok-found-2.found c.in-Some.ensures
    (c.in_ok-found-2.ensures c.args.definitions.now before change known
    (refers_to c.args.definitions.now c.args.number c.args.child.now c.args.reference.now c.in-Some.parent.now c.requires.child c.requires.reference c.in-Some.ensures)
    (c.if-reference-changed.true ∙ sym is)
    (λ same. c.if-number-from.false (same ∙ is ∙ sym c.from.ensures)))

pub returns : goal.returns
returns c = λ before change is known.
    fault_elsewhere c.args.definitions.now before change c.args.number c.args.child.now c.args.reference.now known.lawful c.requires.child c.requires.reference
    (λ same. c.if-number-from.false (same ∙ is ∙ sym c.from.ensures)) (λ same. c.if-reference-changed.false (same ∙ is))
