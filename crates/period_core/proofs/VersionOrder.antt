-- Versions that tie are the same.
use Rattle.std.proofs.Common.{◌≡◌, refl, subst, Ordering}
use Rattle.std.specs.declared.cmp.Ordering.TheVariants.{Less, Equal, Greater}
use Rattle.std.specs.Cmp.{Equal-is}
use Rattle.std.specs.Bool.{Decides}
use Rattle.std.specs.FinMap.{IsAntisymmetric, int_cmp-IsAntisymmetric}
use Rattle.std.specs.Ordering.{eq_by_cmp, ordering_then}
use Rattle.std.proofs.lemmas.Cmp.{tied_itself}
use Rattle.period_core.specs.Order.{version_cmp}
use Rattle.period_core.specs.OrderLaws.{values_cmp-same, version_cmp_total}
use Rattle.period_core.proofs.Periods.{period_same}
use Rattle.period_core.specs.declared.version.VersionRow.{VersionRow}

-- two comparisons in turn tie if both do
then-Equal : (a b : Ordering) → ordering_then a b ≡ Equal → (a ≡ Equal) × (b ≡ Equal)
then-Equal Less b e = cc
then-Equal Equal b e = (refl, e)
then-Equal Greater b e = cc

-- versions that tie are the same
pub version_cmp-same : IsAntisymmetric version_cmp
version_cmp-same a b e =
    let values = then-Equal _ _ e in
    let starts = then-Equal _ _ values.1 in
    let froms = then-Equal _ _ starts.1 in
    let ends = then-Equal _ _ froms.1 in
    let period : a.period ≡ b.period =
    period_same a.period b.period
    (int_cmp-IsAntisymmetric a.period.start b.period.start starts.0)
    (int_cmp-IsAntisymmetric a.period.end b.period.end ends.0) in
    λ i. record {
      values = values_cmp-same a.values b.values values.0 i;
      period = period i;
      from = int_cmp-IsAntisymmetric a.from b.from froms.0 i;
      to = int_cmp-IsAntisymmetric a.to b.to ends.1 i;
    }

-- `==` on versions says that they are the same
pub version_eq : (a b : VersionRow) → Decides (eq_by_cmp version_cmp a b) (a ≡ b)
version_eq a b =
    let tie = Equal-is (version_cmp a b) in (
      λ e. version_cmp-same a b (tie.0 e),
      λ e. tie.1 (subst (λ c. version_cmp a c ≡ Equal) e (tied_itself version_cmp_total a)),
    )
