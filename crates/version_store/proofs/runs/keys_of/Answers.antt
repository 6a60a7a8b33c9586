use Rattle.std.proofs.Common.{◌≡◌, ◌≢◌, ◌∙◌, ◌++◌, ◌+◌, [], ◌∷◌, ap, arith, length, refl, rules, subst, sym, take, w64, to_z, of_z}
use Rattle.std.proofs.Math.Seq.{take-length}
use Rattle.version_tables.specs.declared.version_key.RecordedKey.{RecordedKey}
use Rattle.version_store.specs.Runs.{AreKeysOf}
use Rattle.version_store.proofs.Together.{keys_more}
use Rattle.version_store.proofs.runs.keys_of.Goals as goal

pub loop-row-init : goal.loop-row-init
loop-row-init c =
    let none : c.in_ok-keys.keys.items ≡ [] = search rules in
    subst (AreKeysOf c.args.moment []) (sym none) (record { keyed = λ t. refl; held = tt; earlier = tt })

pub loop-row-preserved : goal.loop-row-preserved
loop-row-preserved c =
    let row = c.row-item.result in
    let h : to_z w64 (of_z w64 c.number.result) ≡ c.number.result = search rules in
    let f : to_z w64 (of_z w64 c.number-from.result) ≡ c.number-from.result = search rules in
    let s : to_z w64 (of_z w64 c.in_ok-key.key.start) ≡ c.in_ok-key.key.start = search rules in
    let key : RecordedKey = record { key = c.in_ok-key.key; from = c.number-from.result } in
    let apart : row.from ≢ c.args.moment = λ e. c.if-from-number.false (ap (of_z w64) (c.number-from.ensures.value ∙ e ∙ sym c.number.ensures.value)) in
    let more : c.push.new.self.items ≡ c.loop-row.keys.items ++ key ∷ [] = search rules in
    subst (AreKeysOf c.args.moment (take (c.loop-row.row-index + 1) c.args.rows.now)) (sym more)
    (keys_more c.args.moment c.args.rows.now c.loop-row.row-index row c.loop-row.keys.items key c.loop-row-test.true c.row-item.is c.loop-row.invariant c.in_ok-key.ensures.bytes c.in_ok-key.ensures.start c.number-from.ensures.value c.in_ok-key.ensures.held apart)

pub returns-clause-keys : goal.returns-clause-keys
returns-clause-keys c =
    let all : c.loop-row.row-index ≡ length c.args.rows.now = omega (arith, c.loop-row-test.false, c.loop-row.auto) in
    subst (λ rows. AreKeysOf c.args.moment rows c.loop-row.keys.items) (ap (λ n. take n c.args.rows.now) all ∙ take-length c.args.rows.now) c.loop-row.invariant
