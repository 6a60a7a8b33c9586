use Rattle.std.proofs.Common.{◌≡◌, ◌++◌, ◌+◌, ◌+ℤ◌, ◌≤◌, ℕ, pos, refl, length, length-append, arith, rules, sym, ap, subst, ◌∙◌, append_assoc, append-nil, List, [], map, w64, to_z, of_z}
use Rattle.std.proofs.lemmas.Int.{to_z-of_z}
use Rattle.std.proofs.lemmas.List.{nil_from_length}
use Rattle.std.proofs.lemmas.Result.{err_from_is_err_and}
use Rattle.version_tables.specs.Steps.{CommitsNothing}
use Rattle.sqlite.specs.Held.{state}
use Rattle.sqlite.specs.State.{HasCleanDisk}
use Rattle.version_tables.specs.Healthy.{CanAdd, IsHealthy, IsNextNumber}
use Rattle.version_tables.proofs.OwnKeys.{can_add_part, healthy_less}
use Rattle.version_tables.specs.declared.version_key.NewRow.{NewRow}
use Rattle.version_tables.specs.Represents.{Represents, all_added, new_version}
use Rattle.version_tables.proofs.Adds.{more_added}
use Rattle.version_tables.proofs.Keeping.{leaves_same, leaves_then}
use Rattle.version_tables.proofs.Steps.{nothing_then, reason_then}
use Rattle.version_tables.proofs.insertion.insert_versions.Goals as goal

pub batches-init : goal.batches-init
batches-init g c =
    let nothing : CommitsNothing g.S.Store c.args.transaction.now.conn.now c.args.transaction.now.conn.now = search rules in
    (refl, nothing, leaves_same g.S.Store c.args.transaction.now.conn.now c.args.transaction.now.conn.now refl, [], refl, λ clean begun. (begun, λ m has. has), λ left clean begun healthy records has. (healthy, tt))

pub batches-preserved : goal.batches-preserved
batches-preserved g c =
    let was = c.batches.invariant in
    let step = c.insert_next.ensures in
    let done = was.3 in
    let batch = c.split_at.result.0.now in
    let f = new_version c.args.table (to_z w64 (of_z w64 c.args.from)) (to_z w64 (of_z w64 c.args.to)) in
    let now = (state g.S.Store c.insert_next.new.transaction.conn.now).now in
    let parts : c.batches.rest.now ≡ batch ++ c.split_at.result.1.now = search rules in (
      step.same_reference ∙ was.0,
      nothing_then g.S.Store _ _ _ was.1 step.inside,
      leaves_then g.S.Store c.args.transaction.now.conn.now _ _ was.2 step.inside c.in_ok-insert_next.ensures.others,
      done ++ batch,
      was.4 ∙ ap (λ l. done ++ l) parts ∙ sym (append_assoc done batch c.split_at.result.1.now),
      λ clean begun.
          let mid = was.5 (omega (arith, step.inside.survives.clean)) begun in
          let made = c.in_ok-insert_next.ensures.made clean mid.0 in
          (made.0, λ m has. more_added now f done batch m (made.1 _ (mid.1 m has))),
      λ left clean begun healthy records has.
          let clean_mid : HasCleanDisk (state g.S.Store c.batches.transaction.conn.now) = omega (arith, step.inside.survives.clean) in
          let mid = was.5 clean_mid begun in
          let sound = was.6 left clean_mid begun healthy records has in
          let split : length c.batches.rest.now + left ≡ length batch + (length c.split_at.result.1.now + left) = ap (λ l. length l + left) parts ∙ ap (λ n. n + left) (length-append batch c.split_at.result.1.now) ∙ omega arith in
          let made = c.in_ok-insert_next.ensures.room clean mid.0 (length c.split_at.result.1.now + left) (subst (λ (n : ℕ). IsHealthy n (state g.S.Store c.batches.transaction.conn.now).now) split sound.0) sound.1 (all_added (map f done) records) (mid.1 records has) in
          let last : to_z w64 (of_z w64 c.last_insert_rowid.result) ≡ c.last_insert_rowid.result = search rules in
          (made.0, subst (λ n. IsNextNumber (n +ℤ pos 1) now) (sym (last ∙ c.last_insert_rowid.ensures)) made.1),
    )

pub returns-clause-made : goal.returns-clause-made
returns-clause-made g c clean begun =
    let was = c.batches.invariant in
    let f = new_version c.args.table c.args.from c.args.to in
    let now = (state g.S.Store c.batches.transaction.conn.now).now in
    let none : c.batches.rest.now ≡ [] = nil_from_length _ (search rules) in
    let all : was.3 ≡ c.args.rows.now = sym (was.4 ∙ ap (λ l. was.3 ++ l) none ∙ append-nil was.3) in
    let made = rw (to_z-of_z w64 c.args.from c.ranges.from, to_z-of_z w64 c.args.to c.ranges.to) at (was.5 clean begun) in
    (made.0, λ m has. subst (λ (done : List NewRow). Represents now (all_added (map f done) m)) all (made.1 m has))

pub returns-clause-others : goal.returns-clause-others
returns-clause-others g c = c.batches.invariant.2

pub returns-clause-healthy : goal.returns-clause-healthy
returns-clause-healthy g c clean begun left healthy _ records has =
    let was = c.batches.invariant in
    let none : c.batches.rest.now ≡ [] = nil_from_length _ (search rules) in
    subst (λ (n : ℕ). IsHealthy n (state g.S.Store c.batches.transaction.conn.now).now) (ap (λ l. length l + left) none ∙ (let zero : 0 + left ≡ left = omega arith in zero)) (was.6 left clean begun healthy records has).0

pub returns-in_err-insert_next-clause-why : goal.returns-in_err-insert_next-clause-why
returns-in_err-insert_next-clause-why g c clean begun healthy records has can =
    let was = c.batches.invariant in
    let step = c.insert_next.ensures in
    let done = was.3 in
    let batch = c.split_at.result.0.now in
    let more = c.split_at.result.1.now in
    let clean_mid : HasCleanDisk (state g.S.Store c.batches.transaction.conn.now) = omega (arith, step.inside.survives.clean) in
    let f = new_version c.args.table (to_z w64 (of_z w64 c.args.from)) (to_z w64 (of_z w64 c.args.to)) in
    let parts : c.batches.rest.now ≡ batch ++ more = search rules in
    let all : c.args.rows.now ≡ done ++ (batch ++ more) = was.4 ∙ ap (λ l. done ++ l) parts in
    let can_wrapped : CanAdd (map f c.args.rows.now) records = rw (to_z-of_z w64 c.args.from c.ranges.from, to_z-of_z w64 c.args.to c.ranges.to) can in
    let part = can_add_part f done batch more records (subst (λ (l : List NewRow). CanAdd (map f l) records) all can_wrapped) in
    let zero : length c.args.rows.now ≡ length c.args.rows.now + 0 = omega arith in
    let mid = was.5 clean_mid begun in
    let sound = was.6 0 clean_mid begun (subst (λ (n : ℕ). IsHealthy n (state g.S.Store c.args.transaction.now.conn.now).now) zero healthy) records has in
    let few : length batch ≤ length c.batches.rest.now + 0 = let long = length-append batch more in let size : length c.batches.rest.now ≡ length (batch ++ more) = ap length parts in omega (arith, long, size) in
    let why = c.in_err-insert_next.ensures.why clean mid.0 (healthy_less (length batch) (length c.batches.rest.now + 0) _ few sound.0) (all_added (map f done) records) (mid.1 records has) (sound.1, part) in
    let p = err_from_is_err_and c.from_residual.result c.from_residual.ensures.1 in
    rw (p.1, p.2) (reason_then _ _ _ _ clean_mid was.1.survives step.inside.survives why)
