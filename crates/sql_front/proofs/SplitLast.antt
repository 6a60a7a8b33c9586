-- The last of a list of names, split off.
use Rattle.std.proofs.Common.{◌≡◌, ℕ, ◌<◌, List, [], ◌∷◌, ◌++◌, length, Some, None, refl, ap, ◌∙◌, arith}
use Rattle.sql_front.specs.reading.ElementReaders.{split_last}
use Rattle.sql_front.proofs.Regroup.{split_pushed}

pub split_none : (names : List (List ℕ)) → names ≡ [] → split_last names ≡ None
split_none names e = rw e refl

pub split_one : (names rest : List (List ℕ)) (last : List ℕ)
    → names ≡ rest ++ last ∷ [] → length rest ≡ 0 → split_last names ≡ None
split_one names [] last e h = rw e refl
split_one names (n ∷ rest) last e h = absurd (omega arith)

pub split_more : (names rest : List (List ℕ)) (last : List ℕ)
    → names ≡ rest ++ last ∷ [] → 0 < length rest → split_last names ≡ Some (rest, last)
split_more names [] last e h = absurd (omega arith)
split_more names (n ∷ rest) last e h = ap split_last e ∙ split_pushed n rest last

pub ruleset split_views = (split_none, split_one, split_more)
