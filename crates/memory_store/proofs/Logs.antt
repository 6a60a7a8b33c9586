-- An undo log with one entry more or less.
use Rattle.std.proofs.Common.{◌≡◌, ◌+◌, ◌-◌, ◌∙◌, [], ◌∷◌, ◌++◌, List, ap, append_assoc, arith, drop, false, get_or, length, refl, set, sym, take, true≢false, ℕ}
use Rattle.std.proofs.lemmas.List.{append-nil, drop_more, length-append, length-take-le, set_at, take-append-drop}
use Rattle.std.proofs.Math.Seq.{get_or-append_seam}
use Rattle.std.proofs.Math.Logic.{∥∥₁_map}
use Rattle.sqlite_trees.specs.View.{Snapshot}
use Rattle.memory_store.specs.declared.log_entry.LogEntry.{LogEntry}
use Rattle.memory_store.specs.declared.log_entry.LogEntry.TheVariants.{SlotAdded, Relisted, Savepoint, Released, Rows, Version}
use Rattle.memory_store.specs.declared.log_entry.LogEntry.TheVariants as entry
use Rattle.memory_store.specs.ContentStates.{IsValidLog, HaveNoSavepoint, IsNewestSavepoint, RowsFitShapes, ContentState, before, before_all, is_savepoint, marked, shorter, state_snapshot, state_of}
use Rattle.memory_store.specs.declared.logged_content.LoggedContent.{LoggedContent}
use Rattle.memory_store.specs.LoggedContents.{Keeps}
use Rattle.memory_store.proofs.ContentStates.{shorter_push}

pub before_append : (us vs : List LogEntry) (s : ContentState) → before_all (us ++ vs) s ≡ before_all us (before_all vs s)
before_append [] vs s = refl
before_append (u ∷ us) vs s = ap (before u) (before_append us vs s)

pub marked_append : (us vs : List LogEntry) (s : ContentState) → marked (us ++ vs) s ≡ marked us (before_all vs s) ++ marked vs s
marked_append [] vs s = refl
marked_append (Savepoint ∷ us) vs s = λ i. state_snapshot (before_append us vs s i) ∷ marked_append us vs s i
marked_append (Released ∷ us) vs s = marked_append us vs s
marked_append (Rows t u ∷ us) vs s = marked_append us vs s
marked_append (SlotAdded ∷ us) vs s = marked_append us vs s
marked_append (entry.Replaced t old ∷ us) vs s = marked_append us vs s
marked_append (Relisted t d r ∷ us) vs s = marked_append us vs s
marked_append (Version v ∷ us) vs s = marked_append us vs s

pub past_split : (us vs : List LogEntry) (s : ContentState) → IsValidLog (us ++ vs) s → IsValidLog us (before_all vs s) × IsValidLog vs s
past_split [] vs s h = (tt, h)
past_split (u ∷ us) vs s h =
    let more = past_split us vs s h.1 in
    ((rw (before_append us vs s) at h.0, more.0), more.1)

pub past_join : (us vs : List LogEntry) (s : ContentState) → IsValidLog us (before_all vs s) → IsValidLog vs s → IsValidLog (us ++ vs) s
past_join [] vs s h k = k
past_join (u ∷ us) vs s h k = (rw (before_append us vs s) h.0, past_join us vs s h.1 k)

unmarked_one : (u : LogEntry) (us : List LogEntry) (s : ContentState) → is_savepoint u ≡ false → marked (u ∷ us) s ≡ marked us s
unmarked_one Savepoint us s none = absurd (true≢false none)
unmarked_one Released us s none = refl
unmarked_one (Rows t u) us s none = refl
unmarked_one SlotAdded us s none = refl
unmarked_one (entry.Replaced t old) us s none = refl
unmarked_one (Relisted t d r) us s none = refl
unmarked_one (Version v) us s none = refl

-- a log without savepoints has no mark
pub unmarked : (us : List LogEntry) (s : ContentState) → HaveNoSavepoint us → marked us s ≡ []
unmarked [] s none = refl
unmarked (u ∷ us) s none = unmarked_one u us s none.0 ∙ unmarked us s none.1

-- ---- an entry more

pub last_pushed : {X : Type 0} (xs : List X) (x d : X) → get_or (xs ++ x ∷ []) (length (xs ++ x ∷ []) - 1) d ≡ x
last_pushed xs x d =
    ap (λ n. get_or (xs ++ x ∷ []) n d) (omega (arith, length-append xs (x ∷ []))) ∙ get_or-append_seam xs x [] d

module _ (us : List LogEntry) (u : LogEntry) (old new : ContentState) (back : before u new ≡ old) where
  pub base_stays : before_all (us ++ u ∷ []) new ≡ before_all us old
  base_stays = before_append us (u ∷ []) new ∙ ap (before_all us) back

  pub marks_stay : is_savepoint u ≡ false → marked (us ++ u ∷ []) new ≡ marked us old
  marks_stay none =
      marked_append us (u ∷ []) new
      ∙ (λ i. marked us (back i) ++ unmarked (u ∷ []) new (none, tt) i)
      ∙ append-nil (marked us old)

  pub past_grows : IsValidLog us old → RowsFitShapes old → IsValidLog (us ++ u ∷ []) new
  past_grows past shapely = past_join us (u ∷ []) new (rw back past) (rw back shapely, tt)

-- ---- entries of a log

pub logged_past : (us log : List LogEntry) (u : LogEntry) (old new : ContentState) → log ≡ us ++ u ∷ [] → before u new ≡ old → RowsFitShapes old → ∥ IsValidLog us old ∥₁ → ∥ IsValidLog log new ∥₁
logged_past us log u old new is back shapely past = ∥∥₁_map past (λ h. rw is (past_grows us u old new back h shapely))

pub logged_keeps : (old new : LoggedContent) (u : LogEntry) → new.log.items ≡ old.log.items ++ u ∷ [] → before u (state_of new.content) ≡ state_of old.content → is_savepoint u ≡ false → Keeps old new
logged_keeps old new u is back none = record {
  base = ap (λ us. before_all us (state_of new.content)) is ∙ base_stays old.log.items u (state_of old.content) (state_of new.content) back;
  marks = ap (λ us. marked us (state_of new.content)) is ∙ marks_stay old.log.items u (state_of old.content) (state_of new.content) back none;
}

pub keeps_twice : (a b c : LoggedContent) → Keeps a b → Keeps b c → Keeps a c
keeps_twice a b c h k = record { base = k.base ∙ h.base; marks = k.marks ∙ h.marks }

-- ---- the newest savepoint

module _ (log : List LogEntry) (at : ℕ) (h : IsNewestSavepoint log at) (s : ContentState) where
  abbrev pub post : List LogEntry
  post = drop (at + 1) log

  split : log ≡ take at log ++ Savepoint ∷ post
  split = sym (take-append-drop at log) ∙ ap (λ l. take at log ++ l) (drop_more log at Released h.within ∙ ap (λ u. u ∷ drop (at + 1) log) h.savepoint)

  pub marks_split : marked log s ≡ marked (take at log) (before_all post s) ++ state_snapshot (before_all post s) ∷ []
  marks_split =
      ap (λ us. marked us s) split ∙ marked_append (take at log) (Savepoint ∷ post) s
      ∙ ap (λ l. marked (take at log) (before_all post s) ++ state_snapshot (before_all post s) ∷ l) (unmarked post s h.newest)

  -- a log with a savepoint has a mark
  pub is_marked : marked log s ≡ [] → ⊥
  is_marked none =
      let lengths = ap length (sym marks_split ∙ none) in
      omega (arith, lengths, length-append (marked (take at log) (before_all post s)) (state_snapshot (before_all post s) ∷ []))

  released : set log at Released ≡ take at log ++ Released ∷ post
  released = ap (λ us. set us at Released) split ∙ set_at (take at log) Savepoint post Released at (length-take-le at log (omega (arith, h.within)))

  pub released_base : before_all (set log at Released) s ≡ before_all log s
  released_base =
      ap (λ us. before_all us s) released ∙ before_append (take at log) (Released ∷ post) s
      ∙ sym (ap (λ us. before_all us s) split ∙ before_append (take at log) (Savepoint ∷ post) s)

  pub released_marks : marked (set log at Released) s ≡ shorter (marked log s)
  released_marks =
      ap (λ us. marked us s) released ∙ marked_append (take at log) (Released ∷ post) s
      ∙ ap (λ l. marked (take at log) (before_all post s) ++ l) (unmarked post s h.newest)
      ∙ append-nil (marked (take at log) (before_all post s))
      ∙ sym (ap shorter marks_split ∙ shorter_push (marked (take at log) (before_all post s)) (state_snapshot (before_all post s)))

  pub released_past : IsValidLog log s → IsValidLog (set log at Released) s
  released_past past =
      let parts = past_split (take at log) (Savepoint ∷ post) s (rw split at past) in
      rw released (past_join (take at log) (Released ∷ post) s parts.0 parts.1)

  pub back_to : (snapshot : Snapshot) → get_or (marked log s) (length (marked log s) - 1) snapshot ≡ state_snapshot (before_all post s)
  back_to snapshot =
      ap (λ ms. get_or ms (length ms - 1) snapshot) marks_split
      ∙ last_pushed (marked (take at log) (before_all post s)) (state_snapshot (before_all post s)) snapshot

-- if a number of entries stay, the rest are undone
pub undone_base : (log : List LogEntry) (n : ℕ) (s : ContentState) → before_all (take n log) (before_all (drop n log) s) ≡ before_all log s
undone_base log n s = sym (before_append (take n log) (drop n log) s) ∙ ap (λ us. before_all us s) (take-append-drop n log)

pub undone_marks : (log : List LogEntry) (n : ℕ) (s : ContentState) → HaveNoSavepoint (drop n log) → marked (take n log) (before_all (drop n log) s) ≡ marked log s
undone_marks log n s none =
    sym (append-nil (marked (take n log) (before_all (drop n log) s)))
    ∙ ap (λ l. marked (take n log) (before_all (drop n log) s) ++ l) (sym (unmarked (drop n log) s none))
    ∙ sym (marked_append (take n log) (drop n log) s) ∙ ap (λ us. marked us s) (take-append-drop n log)

-- ---- the newest entry

shorter_with : {X : Type 0} (xs : List X) → xs ≡ shorter xs ++ drop (length xs - 1) xs
shorter_with xs = sym (take-append-drop (length xs - 1) xs)

-- the log was undone up to the present entry
pub record IsUndone (first now : List LogEntry) (from to : ContentState) : Type 0 where
  pub done : List LogEntry
  pub is : first ≡ now ++ done
  pub state : to ≡ before_all done from

pub once_more : (first now next : List LogEntry) (from to then_ : ContentState) → IsUndone first now from to → next ≡ shorter now → then_ ≡ before_all (drop (length now - 1) now) to → IsUndone first next from then_
once_more first now next from to then_ h log stands =
    let last = drop (length now - 1) now in
    record {
      done = last ++ h.done;
      is = h.is ∙ ap (λ l. l ++ h.done) (shorter_with now) ∙ append_assoc (shorter now) last h.done ∙ ap (λ l. l ++ (last ++ h.done)) (sym log);
      state = stands ∙ ap (before_all last) h.state ∙ sym (before_append last h.done from);
    }
