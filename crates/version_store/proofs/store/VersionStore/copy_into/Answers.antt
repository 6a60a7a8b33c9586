use Rattle.std.proofs.Common.{◌≡◌, length, arith, ap, subst, subst₂, sym}
use Rattle.version_store.specs.Contents.{Contents}
use Rattle.version_store.specs.Copies.{HasCommitted, without_versions}
use Rattle.version_store.specs.StoreState.{StoreRepresents}
use Rattle.version_store.proofs.Copies.{only_read_same, up_to_all, up_to_none}
use Rattle.version_store.proofs.store.VersionStore.copy_into.Goals as goal

pub loop-place-init : goal.loop-place-init
loop-place-init g c = (
  c.begin_copy.ensures.mode,
  λ usable. c.begin_copy.ensures.usable usable,
  only_read_same g.S.Store c.args.self.now,
  λ usable d stands. stands,
  λ usable copy_usable d tabled stands.
      let was = subst (λ s. StoreRepresents g.S.Store s d) (sym c.self.view_is) stands in
      subst (λ (e : Contents). HasCommitted g.T.Store c.begin_copy.new.connection e) (sym (up_to_none d tabled))
      (subst₂ (λ ts k. HasCommitted g.T.Store c.begin_copy.new.connection (without_versions ts k)) was.catalog was.clock (c.in_ok-begin_copy.ensures.made copy_usable)),
)

pub returns-clause-copied : goal.returns-clause-copied
returns-clause-copied g c usable copy_usable d tabled stands =
    let was = subst (λ s. StoreRepresents g.S.Store s d) (sym c.self.view_is) stands in
    let size = ap length was.catalog in
    let count = c.len-place-end.ensures in
    let all : c.loop-place.place ≡ length d.tables = omega (arith, size, count) in
    subst (λ (e : Contents). HasCommitted g.T.Store c.loop-place.copy e) (up_to_all d tabled c.loop-place.place all) (c.loop-place.invariant.4 usable copy_usable d tabled stands)
