use Rattle.std.proofs.Common.{IsTrue, refl, rules, subst, sym, ◌+◌}
use Rattle.sqlite.specs.Held.{Held, state}
use Rattle.sqlite.specs.State.{HasCleanDisk}
use Rattle.version_tables.specs.Healthy.{IsHealthy}
use Rattle.version_tables.specs.Moves.{IsInSeconds}
use Rattle.version_tables.specs.Represents.{Represents}
use Rattle.version_tables.proofs.OwnKeys.{healthy_none}
use Rattle.version_store.proofs.transactions.write_move.Goals as goal

pub returns-clause-healthy : goal.returns-clause-healthy
returns-clause-healthy g c clean left healthy inside =
    let started = c.transaction-transaction.ensures.begun in
    let clean_mid : HasCleanDisk (state g.S.Store c.put_microseconds.new.transaction.conn.now) = search rules in
    let made =
    c.in_ok-put_microseconds.ensures.healthy clean_mid (subst (λ (h : Held _). IsTrue h.in_transaction) (sym started) refl) left (subst (λ (h : Held _). IsHealthy (0 + left) (state g.S.Store h).now) (sym started) (healthy_none left _ healthy))
    (subst (λ (h : Held _). IsInSeconds (state g.S.Store h).now) (sym started) inside) inside.0 (subst (λ (h : Held _). Represents (state g.S.Store h).now inside.0) (sym started) inside.2) in
    let sure : HasCleanDisk (state g.S.Store c.commit.new.self.0) = search rules in
    let after : IsHealthy left (state g.S.Store c.commit.new.self.0).now = subst (IsHealthy left) (sym (c.in_ok-commit.ensures.ok sure).1.now_is) made in
    search (rules, after)
