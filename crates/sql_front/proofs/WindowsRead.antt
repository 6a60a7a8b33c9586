-- System-time windows are read.
use Rattle.std.proofs.Common.{◌≡◌, ℕ, true, List, [], ◌∷◌, refl, codes}
use Rattle.sql_statements.specs.declared.statement.SystemTime.TheVariants.{AsOf}
use Rattle.sql_front.specs.Language.{keyword, Optional, Preceded, Sequence}
use Rattle.sql_front.specs.Builders.{between_of, from_to_of}
use Rattle.sql_front.proofs.ReadGrammar.{IsClockMoment, IsForWindow, IsMoment, IsWindow}
use Rattle.sql_front.specs.reading.WindowReaders.{for_window_read, window_read, two_moments_read}
use Rattle.sql_front.proofs.First.{Starts, starts_built, starts_choice, starts_preceded}
use Rattle.sql_front.proofs.Laws.{Any, Reads, reads_both, reads_built, reads_preceded}
use Rattle.sql_front.proofs.LeavesRead.{level_clock_moment, level_moment, reads_clock_moment, reads_moment}
use Rattle.sql_front.proofs.Levels.{Level, level_built, level_choice, level_preceded, level_sequence, plain_keyword}
use Rattle.sql_front.proofs.Sorts.{all_differ, any_of, Next, reads_choice_next, reads_next, reads_optional_next, Sort, word}

pub reads_window : Reads IsWindow Any window_read
unfolding window_read two_moments_read
reads_window =
    let as_of_starts = starts_built AsOf (starts_preceded (keyword (codes "AS")) (Preceded (keyword (codes "OF")) IsClockMoment)) in
    let from_starts = starts_built from_to_of (starts_preceded (keyword (codes "FROM")) (Sequence IsMoment (Preceded (keyword (codes "TO")) IsMoment))) in
    let between_starts = starts_built between_of (starts_preceded (keyword (codes "BETWEEN")) (Sequence IsMoment (Preceded (keyword (codes "AND")) IsMoment))) in
    reads_choice_next (word (codes "AS") ∷ []) (word (codes "FROM") ∷ word (codes "BETWEEN") ∷ []) refl as_of_starts (starts_choice from_starts between_starts)
    (reads_built AsOf (reads_preceded (keyword (codes "AS")) (reads_preceded (keyword (codes "OF")) reads_clock_moment)))
    (reads_choice_next (word (codes "FROM") ∷ []) (word (codes "BETWEEN") ∷ []) refl from_starts between_starts
    (reads_built from_to_of (reads_preceded (keyword (codes "FROM")) (reads_both reads_moment (reads_preceded (keyword (codes "TO")) reads_moment))))
    (reads_built between_of (reads_preceded (keyword (codes "BETWEEN")) (reads_both reads_moment (reads_preceded (keyword (codes "AND")) reads_moment)))))

pub level_window : (k : ℕ) → Level k IsWindow IsWindow
level_window k =
    level_choice (level_built AsOf (level_preceded (plain_keyword (codes "AS")) (level_preceded (plain_keyword (codes "OF")) (level_clock_moment k))))
    (level_choice (level_built from_to_of (level_preceded (plain_keyword (codes "FROM")) (level_sequence (level_moment k) (level_preceded (plain_keyword (codes "TO")) (level_moment k)))))
    (level_built between_of (level_preceded (plain_keyword (codes "BETWEEN")) (level_sequence (level_moment k) (level_preceded (plain_keyword (codes "AND")) (level_moment k))))))

-- ---- FOR SYSTEM_TIME, or nothing

pub starts_for_window : Starts (any_of (word (codes "FOR") ∷ [])) IsForWindow
starts_for_window = starts_preceded (keyword (codes "FOR")) (Preceded (keyword (codes "SYSTEM_TIME")) IsWindow)

-- a system-time window is read before tokens that do not begin with FOR
pub reads_for_window : (ends : List Sort) → all_differ ends (word (codes "FOR") ∷ []) ≡ true → Reads (Optional IsForWindow) (Next ends) for_window_read
unfolding for_window_read
reads_for_window ends e =
    reads_optional_next (word (codes "FOR") ∷ []) ends e starts_for_window
    (reads_next ends (reads_preceded (keyword (codes "FOR")) (reads_preceded (keyword (codes "SYSTEM_TIME")) reads_window)))

pub level_for_window : (k : ℕ) → Level k IsForWindow IsForWindow
level_for_window k = level_preceded (plain_keyword (codes "FOR")) (level_preceded (plain_keyword (codes "SYSTEM_TIME")) (level_window k))
