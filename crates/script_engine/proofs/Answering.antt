-- An answer over the rows that a query's references see is one in the history.
use Rattle.std.proofs.Common.{◌≡◌, ◌↔◌, ◌==◌, ◌+◌, ◌++◌, ◌∷◌, ◌∙◌, ℕ, ℤ, true, List, [], append_assoc, eqb-true, length, map, refl, sym, ap, subst, inl, inr, arith, length-append}
use Rattle.std.specs.Prelude.{slice_index_or}
use Rattle.std.specs.List.{Contains}
use Rattle.std.proofs.lemmas.Bool.{and_parts}
use Rattle.period_core.specs.declared.answer.Answer.{Answer}
use Rattle.period_core.specs.declared.answer.Witness.{Witness}
use Rattle.period_core.specs.declared.row.PeriodRow.{PeriodRow}
use Rattle.period_core.specs.declared.value.Value.{Value}
use Rattle.temporal_model.specs.Answer.{IsCertified, IsInAnswerOrder, IsShortest}
use Rattle.temporal_model.specs.Snapshot.{Equivalent}
use Rattle.temporal_model.specs.Witness.{IsWitness, WitnessEachRow, witness_of}
use Rattle.temporal_model.proofs.Members.{Contains-cons_cases, Contains-nil}
use Rattle.temporal_model.proofs.Witnesses.{witnessed_by_sets}
use Rattle.catalog_core.specs.declared.query.resolved.QueryReference.{QueryReference}
use Rattle.catalog_core.specs.query.Fitting.{are_in_place}
use Rattle.catalog_core.specs.query.Queries.{Query, references_of, rows_for}
use Rattle.history_model.specs.Histories.{History}
use Rattle.sequenced_ops.specs.Operations.{SnapshotsAre}
use Rattle.script_engine.specs.Headline.{IsSequencedAnswer}
use Rattle.script_engine.specs.engine.Answering.{EachSees, SeesRows}
use Rattle.script_engine.specs.engine.Audits.{HaveSeenRows}

-- ---- lists

-- facts of two lists and of two more, place by place, are facts of both together
pub each_append : (history : History) (before references : List QueryReference) (lists others : List (List PeriodRow)) → EachSees history before lists → EachSees history references others → EachSees history (before ++ references) (lists ++ others)
each_append history [] references [] others each more = more
each_append history [] references (rows ∷ lists) others each more = absurd each
each_append history (reference ∷ before) references [] others each more = absurd each
each_append history (reference ∷ before) references (rows ∷ lists) others each more = (each.0, each_append history before references lists others each.1 more)

pub each_more : (history : History) (before : List QueryReference) (lists : List (List PeriodRow)) (reference : QueryReference) (rows : List PeriodRow) → EachSees history before lists → SeesRows history reference rows →
    EachSees history (before ++ reference ∷ []) (lists ++ rows ∷ [])
each_more history before lists reference rows each sees = each_append history before (reference ∷ []) lists (rows ∷ []) each (sees, tt)

-- the first list after some lists is in the place of their number
pub at_length : (before : List (List PeriodRow)) (rows : List PeriodRow) (lists : List (List PeriodRow)) → slice_index_or (before ++ rows ∷ lists) (length before) [] ≡ rows
at_length [] rows lists = refl
at_length (first ∷ before) rows lists = at_length before rows lists

-- a reference's list is in its place, if the places count up
pub in_its_place : (history : History) (references : List QueryReference) (before lists : List (List PeriodRow)) → are_in_place (length before) references ≡ true → EachSees history references lists →
    (reference : QueryReference) → Contains references reference → SeesRows history reference (rows_for (before ++ lists) reference)
in_its_place history [] before lists placed each reference among = absurd (Contains-nil reference among)
in_its_place history (first ∷ references) before [] placed each reference among = absurd each
in_its_place history (first ∷ references) before (rows ∷ lists) placed each reference among =
    let (here, behind) = and_parts (first.place == length before) (are_in_place (length before + 1) references) placed in
    let at : first.place ≡ length before = eqb-true first.place (length before) here in
    let its : rows_for (before ++ rows ∷ lists) first ≡ rows = ap (λ (n : ℕ). slice_index_or (before ++ rows ∷ lists) n []) at ∙ at_length before rows lists in
    let long : length before + 1 ≡ length (before ++ rows ∷ []) = (let both = length-append before (rows ∷ []) in omega (arith, both)) in
    let later : are_in_place (length (before ++ rows ∷ [])) references ≡ true = subst (λ (n : ℕ). are_in_place n references ≡ true) long behind in
    elim (Contains-cons_cases first references reference among) [
      | inl same ↦ subst (λ (r : QueryReference). SeesRows history r (rows_for (before ++ rows ∷ lists) r)) same (subst (SeesRows history first) (sym its) each.0)
      | inr more ↦
          subst (λ (l : List (List PeriodRow)). SeesRows history reference (rows_for l reference)) (append_assoc before (rows ∷ []) lists)
          (in_its_place history references (before ++ rows ∷ []) lists later each.1 reference more)
    ]

-- each reference of a query in whose text they count up has the list of the rows that it sees
pub have_seen : (history : History) (query : Query) (tables : List (List PeriodRow)) → are_in_place 0 (references_of query) ≡ true → EachSees history (references_of query) tables → HaveSeenRows history query tables
have_seen history query tables placed each = in_its_place history (references_of query) [] tables placed each

-- ---- answers

-- a list that coalescing gave of rows with these sets, and its witnesses, are an answer by them
pub made_answer : (InSet : ℤ → List Value → Type 0) (rows : List PeriodRow) (answer : Answer) → SnapshotsAre InSet rows → Equivalent rows answer.rows → IsShortest answer.rows → IsInAnswerOrder answer.rows → IsCertified answer.rows →
    answer.witnesses ≡ map witness_of answer.rows → IsSequencedAnswer InSet answer
made_answer InSet rows answer are same shortest ordered certified witnesses =
    let daily : SnapshotsAre InSet answer.rows = λ day values. (λ h. (are day values).0 ((same day values).1 h), λ h. (same day values).0 ((are day values).1 h)) in
    record {
      daily = daily;
      shortest = shortest;
      ordered = ordered;
      witnessed = subst (WitnessEachRow InSet answer.rows) (sym witnesses) (witnessed_by_sets InSet answer.rows certified daily);
    }

module _ (Sets Others : ℤ → List Value → Type 0) (same : (day : ℤ) (values : List Value) → (Sets day values ↔ Others day values)) where
  witness_along : (row : PeriodRow) (witness : Witness) → IsWitness Sets row witness → IsWitness Others row witness
  witness_along row witness is = record {
    days = is.days;
    held = (same row.period.start row.values).0 is.held;
    absent = λ there. is.absent ((same _ row.values).1 there);
  }

  each_along : (rows : List PeriodRow) (witnesses : List Witness) → WitnessEachRow Sets rows witnesses → WitnessEachRow Others rows witnesses
  each_along [] [] each = tt
  each_along [] (witness ∷ witnesses) each = absurd each
  each_along (row ∷ rows) [] each = absurd each
  each_along (row ∷ rows) (witness ∷ witnesses) each = (witness_along row witness each.0, each_along rows witnesses each.1)

  -- an answer by sets is an answer by equal sets
  pub answer_along : (answer : Answer) → IsSequencedAnswer Sets answer → IsSequencedAnswer Others answer
  answer_along answer right = record {
    daily = λ day values. (λ h. (same day values).0 ((right.daily day values).0 h), λ h. (right.daily day values).1 ((same day values).1 h));
    shortest = right.shortest;
    ordered = right.ordered;
    witnessed = each_along answer.rows answer.witnesses right.witnessed;
  }
