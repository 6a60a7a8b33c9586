-- Rows that are added to a list: one pair more, one entry more, and the pairs of both sides.
use Rattle.std.proofs.Common.{◌≡◌, ◌⊎◌, ◌≤ℤ◌, ◌<ℤ◌, ℕ, ℤ, true, false, List, [], ◌∷◌, ◌++◌, refl, sym, ◌∙◌, subst, inl, inr, arith}
use Rattle.std.specs.List.{All, Contains}
use Rattle.std.proofs.lemmas.Int.{ints, by_lt_z}
use Rattle.std.proofs.lemmas.List.Elements.{All-contains, Contains-append_left, Contains-push, Contains-push_cases}
use Rattle.period_core.specs.DaySets.{InPeriod}
use Rattle.period_core.specs.declared.period.Period.{Period}
use Rattle.period_core.specs.declared.value.Value.{Value}
use Rattle.period_core.specs.declared.row.PeriodRow.{PeriodRow}
use Rattle.period_core.proofs.PeriodEnds.{days_from, days_to, day_in}
use Rattle.temporal_model.specs.Snapshot.{Equivalent, InSnapshot}
use Rattle.temporal_model.proofs.Members.{Contains-nil}
use Rattle.temporal_model.proofs.Snapshots.{held, in_snapshot}
use Rattle.catalog_core.specs.declared.query.resolved.Select.{Select}
use Rattle.history_model.specs.OrdinaryQuery.{meets_all}
use Rattle.snapshot_audit.specs.declared.combined_rows.CombinedOutput.{CombinedOutput}
use Rattle.snapshot_audit.specs.declared.combined_rows.CombinedOutput.TheVariants.{Front, SelectList}
use Rattle.snapshot_audit.specs.declared.joins.EntrySide.{EntrySide}
use Rattle.snapshot_audit.specs.declared.joins.EntrySide.TheVariants.{First, Second}
use Rattle.snapshot_audit.specs.declared.keys.KeyedEntry.{KeyedEntry}
use Rattle.snapshot_audit.specs.Keys.{AreByKey, BeginsWithin, HasPeriod, Reads}
use Rattle.snapshot_audit.specs.Pairs.{Adds, AreJoined, AreShared, Begun, InAny, InEach, InMeetingPair, InPair, Sided}
use Rattle.snapshot_audit.specs.Selections.{CanMeet, IsKept}
use Rattle.snapshot_audit.proofs.KeyOrder.{same_key}
use Rattle.snapshot_audit.proofs.SelectSteps.{same_values}

-- sets of days and values
abbrev pub Sets : Type 1
Sets = ℤ → List Value → Type 0

-- ---- rows that are added

pub adds_none : (May Must : Sets) (rows : List PeriodRow) → ((day : ℤ) (row : List Value) → Must day row → ⊥) → Adds May Must rows rows
adds_none May Must rows none = record {
  kept = λ day row h. h;
  made = λ day row h. inl h;
  all = λ day row must. absurd (none day row must);
}

-- rows that add sets twice add both together
pub adds_more :
    (A M B N C O : Sets) (old mid new : List PeriodRow) → ((day : ℤ) (row : List Value) → A day row → C day row)
    → ((day : ℤ) (row : List Value) → B day row → C day row) → ((day : ℤ) (row : List Value) → O day row → (M day row ⊎ N day row))
    → Adds A M old mid → Adds B N mid new → Adds C O old new
adds_more A M B N C O old mid new first second split one two = record {
  kept = λ day row h. two.kept day row (one.kept day row h);
  made = λ day row h. elim (two.made day row h) [
    | inl before ↦ elim (one.made day row before) [ inl was ↦ inl was | inr may ↦ inr (first day row may) ]
    | inr may ↦ inr (second day row may)
  ];
  all = λ day row must. elim (split day row must) [
    | inl m ↦ two.kept day row (one.all day row m)
    | inr n ↦ two.all day row n
  ];
}

-- rows that add sets add weaker ones
pub adds_weaker :
    (A M C O : Sets) (old new : List PeriodRow) → ((day : ℤ) (row : List Value) → A day row → C day row)
    → ((day : ℤ) (row : List Value) → O day row → M day row) → Adds A M old new → Adds C O old new
adds_weaker A M C O old new first second one = record {
  kept = one.kept;
  made = λ day row h. elim (one.made day row h) [ inl was ↦ inl was | inr may ↦ inr (first day row may) ];
  all = λ day row must. one.all day row (second day row must);
}

-- sets that are added to rows are added to any rows with the same snapshots
pub adds_to_same : (A M : Sets) (old same new : List PeriodRow) → Equivalent old same → Adds A M same new → Adds A M old new
adds_to_same A M old same new alike one = record {
  kept = λ day row h. one.kept day row ((alike day row).0 h);
  made = λ day row h. elim (one.made day row h) [ inl was ↦ inl ((alike day row).1 was) | inr may ↦ inr may ];
  all = one.all;
}

-- the snapshot of rows with one more
pub snapshot_push :
    (rows : List PeriodRow) (row : PeriodRow) (day : ℤ) (values : List Value) → InSnapshot (rows ++ row ∷ []) day values
    → (InSnapshot rows day values ⊎ ((row.values ≡ values) × InPeriod row.period day))
snapshot_push rows row day values h =
    let (r, c, v, (from, to)) = held (rows ++ row ∷ []) day values h in
    elim (Contains-push_cases rows row r c) [
      | inl before ↦ inl (in_snapshot rows day values (r, before, v, (from, to)))
      | inr same ↦ inr (subst (λ (x : PeriodRow). (x.values ≡ values) × InPeriod x.period day) (sym same) (v, day_in r.period day from to))
    ]

pub snapshot_before :
    (rows : List PeriodRow) (row : PeriodRow) (day : ℤ) (values : List Value) → InSnapshot rows day values
    → InSnapshot (rows ++ row ∷ []) day values
snapshot_before rows row day values h =
    let (r, c, v, covers) = held rows day values h in
    in_snapshot (rows ++ row ∷ []) day values (r, Contains-append_left rows (row ∷ []) r c, v, covers)

pub snapshot_last :
    (rows : List PeriodRow) (row : PeriodRow) (day : ℤ) (values : List Value) → row.values ≡ values → InPeriod row.period day
    → InSnapshot (rows ++ row ∷ []) day values
snapshot_last rows row day values same inside =
    in_snapshot (rows ++ row ∷ []) day values (row, Contains-push rows row, same, (days_from row.period day inside, days_to row.period day inside))

-- ---- a pair

module _ (select : Select) (output : CombinedOutput) (first second : PeriodRow) (rows : List PeriodRow) where
  -- a pair of rows that share no day adds nothing
  pub pair_apart :
      ((day : ℤ) → InPeriod first.period day → InPeriod second.period day → ⊥)
      → Adds (InPair select output first second) (InMeetingPair select output first second) rows rows
  pair_apart apart = adds_none (InPair select output first second) (InMeetingPair select output first second) rows
      (λ day row (can, (one, other, its)). apart day one other)

  -- no combined row that begins with their values meets the conditions
  pub pair_ruled_out :
      ((rest : List Value) → meets_all select.conjuncts ((first.values ++ second.values) ++ rest) ≡ false)
      → Adds (InPair select output first second) (InMeetingPair select output first second) rows rows
  pair_ruled_out none = adds_none (InPair select output first second) (InMeetingPair select output first second) rows
      (λ day row ((rest, met), its).
      let no = none rest in
      let yes : meets_all select.conjuncts ((first.values ++ second.values) ++ rest) ≡ true = met in cc)

  pub pair_added :
      (added : PeriodRow) → ((day : ℤ) → InPeriod added.period day → InPeriod first.period day × InPeriod second.period day)
      → ((day : ℤ) → InPeriod first.period day → InPeriod second.period day → InPeriod added.period day)
      → IsKept select output (first.values ++ second.values) added.values
      → ((row : List Value) → IsKept select output (first.values ++ second.values) row → added.values ≡ row)
      → Adds (InPair select output first second) (InMeetingPair select output first second) rows (rows ++ added ∷ [])
  pair_added added days both its one = record {
    kept = λ day row h. snapshot_before rows added day row h;
    made = λ day row h. elim (snapshot_push rows added day row h) [
      | inl was ↦ inl was
      | inr (same, inside) ↦ let (a, b) = days day inside in
          inr (a, b, subst (IsKept select output (first.values ++ second.values)) same its)
    ];
    all = λ day row (can, (a, b, k)). snapshot_last rows added day row (one row k) (both day a b);
  }

-- the values of a combined row are determined
pub kept_one : (select : Select) (output : CombinedOutput) (values row other : List Value) → IsKept select output values row → IsKept select output values other → row ≡ other
kept_one select Front values row other p q = sym p ∙ q
kept_one select SelectList values row other p q = same_values row other (sym p.1 ∙ q.1)

-- ---- each entry of the other side

module _ (May Must : KeyedEntry → KeyedEntry → Sets) (entry : KeyedEntry) (old : List PeriodRow) where
  pub each_none : Adds (InEach May entry []) (InEach Must entry []) old old
  each_none = adds_none (InEach May entry []) (InEach Must entry []) old (λ day row (other, c, its). Contains-nil other c)

  pub each_more :
      (done : List KeyedEntry) (other : KeyedEntry) (rows new : List PeriodRow) → Adds (InEach May entry done) (InEach Must entry done) old rows
      → Adds (May entry other) (Must entry other) rows new
      → Adds (InEach May entry (done ++ other ∷ [])) (InEach Must entry (done ++ other ∷ [])) old new
  each_more done other rows new one two =
      adds_more (InEach May entry done) (InEach Must entry done) (May entry other) (Must entry other)
      (InEach May entry (done ++ other ∷ [])) (InEach Must entry (done ++ other ∷ [])) old rows new
      (λ day row (x, c, its). (x, Contains-append_left done (other ∷ []) x c, its))
      (λ day row its. (other, Contains-push done other, its))
      (λ day row (x, c, its). elim (Contains-push_cases done other x c) [
        | inl before ↦ inl (x, before, its)
        | inr same ↦ inr (subst (λ y. Must entry y day row) (sym same) its)
      ])
      one two

-- ---- each entry

module _ (May Must : KeyedEntry → KeyedEntry → Sets) (others : List KeyedEntry) (old : List PeriodRow) where
  pub any_none : Adds (InAny May [] others) (InAny Must [] others) old old
  any_none = adds_none (InAny May [] others) (InAny Must [] others) old (λ day row (entry, c, its). Contains-nil entry c)

  pub any_more :
      (done : List KeyedEntry) (entry : KeyedEntry) (rows new : List PeriodRow) → Adds (InAny May done others) (InAny Must done others) old rows
      → Adds (InEach May entry others) (InEach Must entry others) rows new
      → Adds (InAny May (done ++ entry ∷ []) others) (InAny Must (done ++ entry ∷ []) others) old new
  any_more done entry rows new one two =
      adds_more (InAny May done others) (InAny Must done others) (InEach May entry others) (InEach Must entry others)
      (InAny May (done ++ entry ∷ []) others) (InAny Must (done ++ entry ∷ []) others) old rows new
      (λ day row (x, c, its). (x, Contains-append_left done (entry ∷ []) x c, its))
      (λ day row its. (entry, Contains-push done entry, its))
      (λ day row (x, c, its). elim (Contains-push_cases done entry x c) [
        | inl before ↦ inl (x, before, its)
        | inr same ↦ inr (subst (λ y. InEach Must y others day row) (sym same) its)
      ])
      one two

-- a pair that holds on a day, if the other's row starts no earlier: it starts on a day of the entry
sided_days :
    (select : Select) (output : CombinedOutput) (side : EntrySide) (entry other : KeyedEntry) (day : ℤ) (row : List Value)
    → Sided (InMeetingPair select output) side entry other day row → InPeriod entry.row.now.period day × InPeriod other.row.now.period day
sided_days select output First entry other day row (can, (a, b, its)) = (a, b)
sided_days select output Second entry other day row (can, (a, b, its)) = (b, a)

-- all entries that begin within the entry are added with the partners
pub partners_are_all :
    (select : Select) (output : CombinedOutput) (side : EntrySide) (entry : KeyedEntry) (others partners : List KeyedEntry) (rows new : List PeriodRow)
    → HasPeriod entry → All HasPeriod others
    → ((other : KeyedEntry) → Contains partners other → Contains others other)
    → ((other : KeyedEntry) → Contains others other → BeginsWithin entry other → Contains partners other)
    → Adds (InEach (Sided (InPair select output) side) entry partners) (InEach (Sided (InMeetingPair select output) side) entry partners) rows new
    → Adds (InEach (Sided (InPair select output) side) entry others) (InEach (Begun (Sided (InMeetingPair select output) side)) entry others) rows new
partners_are_all select output side entry others partners rows new period periods inside all one =
    adds_weaker (InEach (Sided (InPair select output) side) entry partners) (InEach (Sided (InMeetingPair select output) side) entry partners)
    (InEach (Sided (InPair select output) side) entry others) (InEach (Begun (Sided (InMeetingPair select output) side)) entry others) rows new
    (λ day row (other, c, its). (other, inside other c, its))
    (λ day row (other, c, (key, start, its)).
    let (a, b) = sided_days select output side entry other day row its in
    let ends : day <ℤ entry.period.end = days_to entry.period day (subst (λ (p : Period). InPeriod p day) period a) in
    let starts : other.period.start ≤ℤ day = days_from other.period day (subst (λ (p : Period). InPeriod p day) (All-contains HasPeriod others other periods c) b) in
    (other, all other c (key, start, omega (arith, ints)), its))
    one

-- ---- both sides

module _
    (select : Select) (output : CombinedOutput) (rows others : List PeriodRow) (left right : List ℕ) (first second : List KeyedEntry)
    (shared : AreShared select rows others left right) (firsts : AreByKey left rows first) (seconds : AreByKey right others second) where
  -- both rows of a pair of entries are held on its day
  held_by_rows :
      (entry other : KeyedEntry) (day : ℤ) (row : List Value) → Contains first entry → Contains second other
      → InPair select output entry.row.now other.row.now day row
      → (a b : List Value) × InSnapshot rows day a × InSnapshot others day b × IsKept select output (a ++ b) row
  held_by_rows entry other day row c d (p, q, its) =
      let x : PeriodRow = entry.row.now in
      let y : PeriodRow = other.row.now in (
        x.values,
        y.values,
        in_snapshot rows day x.values (x, (firsts.made entry c).0, refl, (days_from x.period day p, days_to x.period day p)),
        in_snapshot others day y.values (y, (seconds.made other d).0, refl, (days_from y.period day q, days_to y.period day q)),
        its,
      )

  pub both_sides :
      (mid joined : List PeriodRow)
      → Adds (InAny (Sided (InPair select output) First) first second) (InAny (Begun (Sided (InMeetingPair select output) First)) first second) [] mid
      → Adds (InAny (Sided (InPair select output) Second) second first) (InAny (Begun (Sided (InMeetingPair select output) Second)) second first) mid joined
      → AreJoined select output rows others joined
  both_sides mid joined one two = record {
    made = λ day row h. elim (two.made day row h) [
      | inl before ↦ elim (one.made day row before) [
        | inl none ↦ absurd (Contains-nil row none)
        | inr (entry, c, (other, d, its)) ↦ held_by_rows entry other day row c d its
      ]
      | inr (other, d, (entry, c, its)) ↦ held_by_rows entry other day row c d its
    ];
    all = λ day a b row p q can its.
        let (x, xc, xv, (xfrom, xto)) = held rows day a p in
        let (y, yc, yv, (yfrom, yto)) = held others day b q in
        let meets : CanMeet select (x.values ++ y.values) = subst (λ v. CanMeet select (x.values ++ v)) (sym yv) (subst (λ v. CanMeet select (v ++ b)) (sym xv) can) in
        let keeps : IsKept select output (x.values ++ y.values) row =
        subst (λ v. IsKept select output (x.values ++ v) row) (sym yv) (subst (λ v. IsKept select output (v ++ b) row) (sym xv) its) in
        let (key, xk, yk) = shared x y xc yc meets in
        let (entry, c, ex) = firsts.all x key xc xk in
        let (other, d, oy) = seconds.all y key yc yk in
        let ek : entry.key ≡ key = same_key left x.values entry.key key (subst (λ (r : PeriodRow). Reads left r.values entry.key) ex (firsts.made entry c).1) xk in
        let ok : other.key ≡ key = same_key right y.values other.key key (subst (λ (r : PeriodRow). Reads right r.values other.key) oy (seconds.made other d).1) yk in
        let pair : InMeetingPair select output x y day row = (meets, (day_in x.period day xfrom xto, day_in y.period day yfrom yto, keeps)) in
        let found : InMeetingPair select output entry.row.now other.row.now day row =
        subst (λ (r : PeriodRow). InMeetingPair select output entry.row.now r day row) (sym oy) (subst (λ (r : PeriodRow). InMeetingPair select output r y day row) (sym ex) pair) in
        by_lt_z {P = InSnapshot joined day row} other.period.start entry.period.start
        (λ later. two.all day row (other, d, (entry, c, (ek ∙ sym ok, omega (arith, ints), found))))
        (λ upto. two.kept day row (one.all day row (entry, c, (other, d, (ok ∙ sym ek, upto, found)))));
  }
