-- A reporter that was handed all results of a script: its text, and its fault.
use Rattle.std.proofs.Common.{◌≡◌, ◌+◌, ◌++◌, ◌∷◌, ◌∙◌, ℕ, Bool, List, [], Option, None, Some, All, false, true, ap, add-zero, arith, inl, inr, length, refl, subst, sym, append_assoc}
use Rattle.std.specs.Prelude.{◌≢◌, IsSome, max}
use Rattle.std.specs.Io.KnownBytes.{Appends}
use Rattle.std.proofs.KnownBytes.{Appends-nil, Appends-trans}
use Rattle.std.proofs.lemmas.List.{length-append}
use Rattle.std.proofs.lemmas.List.Elements.{All-append, All-cons, All-head, All-nil, All-tail}
use Rattle.script_engine.specs.script.Listening.{ReceivesAll}
use Rattle.bitemporal_file.specs.Reporting.{AllButLast, EndsAtRefusal, ReceivesResult, ReceivesResults, greatest_from, texts_from}
use Rattle.bitemporal_file.specs.Notes.{tally_from}
use Rattle.bitemporal_file.specs.declared.reporter.Reporter.{Reporter}
use Rattle.bitemporal_file.proofs.NoteFacts.{tally-more, told_then}

-- all but the last, in a list after another
module _ {X : Type 0} (Holds : X → Type 0) where
  pub all_but_last-append : (xs ys : List X) → All Holds xs → AllButLast Holds ys → AllButLast Holds (xs ++ ys)
  all_but_last-append [] ys all but = but
  all_but_last-append (x ∷ []) [] all but = tt
  all_but_last-append (x ∷ []) (y ∷ ys) all but = (All-head Holds x [] all, but)
  all_but_last-append (x ∷ next ∷ xs) ys all but = (All-head Holds x (next ∷ xs) all, all_but_last-append (next ∷ xs) ys (All-tail Holds x (next ∷ xs) all) but)

module _ {W N K : Type 0} (contents : W → Option (List ℕ)) (errors : N → Option (List ℕ)) (text : ℕ → K → List ℕ) (status : K → ℕ) (forgotten : K → ℕ) where
  pub none_recorded : (old : Reporter W N) → old.fault ≡ None → ReceivesResults contents errors text status forgotten old [] true old
  none_recorded old quiet = record {
    stops = refl;
    unused = λ is. (is, refl);
    worst = refl;
    low = λ low. low;
    tally = refl;
    told = inl (refl, refl);
    written = λ none. (Appends-nil (contents old.out), sym (add-zero old.next));
    on = λ on. (quiet, λ stops. All-nil (λ r. status r ≡ 0));
    off = λ off. let no : ⊥ = cc in absurd no;
    stop = λ stops. tt;
  }

  last_recorded : (old : Reporter W N) (result : K) (new : Reporter W N) → old.fault ≡ None → ReceivesResult contents errors text status forgotten old result false new → ReceivesResults contents errors text status forgotten old (result ∷ []) false new
  last_recorded old result new quiet told = record {
    stops = told.stops;
    unused = λ is. let used : new.is_unused ≡ false = told.used in let no : ⊥ = cc in absurd no;
    worst = told.worst;
    low = told.low;
    tally = told.tally;
    told = told.told;
    written = λ none.
        let (appends, next) = told.written none in
        (Appends-trans (contents old.out) (contents new.out) (contents new.out) (text old.next result) [] appends (Appends-nil (contents new.out)), next);
    on = λ on. let no : ⊥ = cc in absurd no;
    off = λ off.
        let (fault, cause) = told.off off quiet in (
          fault,
          elim cause [
            | inl some ↦ inl some
            | inr stopped ↦ inr (stopped.0, inl (stopped.1, refl))
          ],
        );
    stop = λ stops. tt;
  }

  next_recorded : (old : Reporter W N) (result : K) (middle : Reporter W N) (results : List K) (goes_on : Bool) (new : Reporter W N) → old.fault ≡ None → ReceivesResult contents errors text status forgotten old result true middle → ReceivesResults contents errors text status forgotten middle results goes_on new → ReceivesResults contents errors text status forgotten old (result ∷ results) goes_on new
  next_recorded old result middle results goes_on new quiet told rest =
      let (same, zero) = told.on refl in
      let silent : middle.fault ≡ None = same ∙ quiet in
      record {
        stops = rest.stops ∙ told.stops;
        unused = λ is.
            let used : middle.is_unused ≡ false = told.used in
            let unused : middle.is_unused ≡ true = (rest.unused is).0 in
            let no : ⊥ = cc in absurd no;
        worst = rest.worst ∙ ap (λ w. greatest_from status w results) told.worst;
        low = λ low. rest.low (told.low low);
        tally = rest.tally ∙ ap (λ n. tally_from forgotten n middle.notes.tally results) (told.written silent).1 ∙ ap (λ t. tally_from forgotten (old.next + 1) t results) told.tally;
        told = told_then errors old.notes middle.notes new.notes told.told rest.told;
        written = λ none.
            let (first, next) = told.written silent in
            let (others, last) = rest.written none in
            let numbered : Appends (contents middle.out) (contents new.out) (texts_from text (old.next + 1) results) =
            subst (λ n. Appends (contents middle.out) (contents new.out) (texts_from text n results)) next others in
            (Appends-trans (contents old.out) (contents middle.out) (contents new.out) (text old.next result) (texts_from text (old.next + 1) results) first numbered, omega (arith, next, last));
        on = λ on.
            let (none, all) = rest.on on in
            (none, λ stops. All-cons (λ r. status r ≡ 0) result results (zero stops) (all (told.stops ∙ stops)));
        off = λ off.
            let (fault, cause) = rest.off off in (
              fault,
              elim cause [
                | inl some ↦ inl some
                | inr stopped ↦ let stops : old.stops ≡ true = sym told.stops ∙ stopped.0 in inr (stops, inr (zero stops, stopped.1))
              ],
            );
        stop = λ stops. all_but_last-append (λ r. status r ≡ 0) (result ∷ []) results (All-cons (λ r. status r ≡ 0) result [] (zero stops) (All-nil (λ r. status r ≡ 0))) (rest.stop (told.stops ∙ stops));
      }

  pub all_recorded : (n : ℕ) (old : Reporter W N) (results : List K) (goes_on : Bool) (new : Reporter W N) → old.fault ≡ None → ReceivesAll (λ o m. ReceivesResult contents errors text status forgotten o) n old results goes_on new → ReceivesResults contents errors text status forgotten old results goes_on new
  all_recorded n old [] goes_on new quiet (same, on) = rw (same, on) (none_recorded old quiet)
  all_recorded n old (result ∷ results) goes_on new quiet (inl (told, none, off)) = rw (none, off) (last_recorded old result new quiet told)
  all_recorded n old (result ∷ results) goes_on new quiet (inr (middle, told, rest)) =
      let silent : middle.fault ≡ None = (told.on refl).0 ∙ quiet in
      next_recorded old result middle results goes_on new quiet told (all_recorded (n + 1) middle results goes_on new silent rest)

  no_fault : {X : Type 0} (fault : Option X) → fault ≡ None → IsSome fault → ⊥
  no_fault None same some = cc
  no_fault (Some x) same some = cc

  -- a reporter without a fault that receives no result has none
  pub some_recorded : (n : ℕ) (old : Reporter W N) (results : List K) (goes_on : Bool) (new : Reporter W N) → old.fault ≡ None → ReceivesAll (λ o m. ReceivesResult contents errors text status forgotten o) n old results goes_on new → IsSome new.fault → results ≢ []
  some_recorded n old [] goes_on new quiet (same, on) some = absurd (no_fault new.fault ((λ k. (same k).fault) ∙ quiet) some)
  some_recorded n old (result ∷ results) goes_on new quiet heard some = λ none. let no : ⊥ = cc in no

  -- a reporter receives one result alone
  pub one_recorded : (old : Reporter W N) (result : K) (goes_on : Bool) (new : Reporter W N) → old.fault ≡ None → ReceivesResult contents errors text status forgotten old result goes_on new → ReceivesResults contents errors text status forgotten old (result ∷ []) goes_on new
  one_recorded old result false new quiet told = last_recorded old result new quiet told
  one_recorded old result true new quiet told = next_recorded old result new [] true new quiet told (none_recorded new ((told.on refl).0 ∙ quiet))

  -- ---- more results

  pub greatest-more : (worst : ℕ) (results more : List K) → greatest_from status worst (results ++ more) ≡ greatest_from status (greatest_from status worst results) more
  greatest-more worst [] more = refl
  greatest-more worst (result ∷ results) more = greatest-more (max worst (status result)) results more

  pub refusal-more : (results more : List K) → All (λ r. status r ≡ 0) results → EndsAtRefusal status more → EndsAtRefusal status (results ++ more)
  refusal-more [] more zero ends = ends
  refusal-more (result ∷ results) more zero ends =
      inr (All-head (λ r. status r ≡ 0) result results zero, refusal-more results more (All-tail (λ r. status r ≡ 0) result results zero) ends)

  texts-more : (n : ℕ) (results more : List K) → texts_from text n (results ++ more) ≡ texts_from text n results ++ texts_from text (n + length results) more
  texts-more n [] more = ap (λ m. texts_from text m more) (sym (add-zero n))
  texts-more n (result ∷ results) more =
      let count : (n + 1) + length results ≡ n + length (result ∷ results) = omega arith in
      ap (λ rest. text n result ++ rest) (texts-more (n + 1) results more ∙ ap (λ m. texts_from text (n + 1) results ++ texts_from text m more) count)
      ∙ sym (append_assoc (text n result) (texts_from text (n + 1) results) (texts_from text (n + length (result ∷ results)) more))

  pub recorded_more : (old : Reporter W N) (results : List K) (middle : Reporter W N) (more : List K) (goes_on : Bool) (new : Reporter W N) → ReceivesResults contents errors text status forgotten old results true middle → ReceivesResults contents errors text status forgotten middle more goes_on new → ReceivesResults contents errors text status forgotten old (results ++ more) goes_on new
  recorded_more old results middle more goes_on new first last =
      let (quiet, zeros) = first.on refl in
      record {
        stops = last.stops ∙ first.stops;
        unused = λ is.
            let (between, none) = last.unused is in
            let (was, nothing) = first.unused between in
            (was, ap (λ (rs : List K). rs ++ more) nothing ∙ none);
        worst = last.worst ∙ ap (λ w. greatest_from status w more) first.worst ∙ sym (greatest-more old.worst results more);
        low = λ low. last.low (first.low low);
        tally = last.tally ∙ ap (λ n. tally_from forgotten n middle.notes.tally more) (first.written quiet).1 ∙ ap (λ t. tally_from forgotten (old.next + length results) t more) first.tally ∙ sym (tally-more forgotten old.next old.notes.tally results more);
        told = told_then errors old.notes middle.notes new.notes first.told last.told;
        written = λ none.
            let (begun, next) = first.written quiet in
            let (others, end) = last.written none in
            let numbered : Appends (contents middle.out) (contents new.out) (texts_from text (old.next + length results) more) =
            subst (λ n. Appends (contents middle.out) (contents new.out) (texts_from text n more)) next others in (
              subst (Appends (contents old.out) (contents new.out)) (sym (texts-more old.next results more))
                  (Appends-trans (contents old.out) (contents middle.out) (contents new.out) (texts_from text old.next results) (texts_from text (old.next + length results) more) begun numbered),
              omega (arith, next, end, length-append results more),
            );
        on = λ on.
            let (none, all) = last.on on in
            (none, λ stops. All-append (λ r. status r ≡ 0) results more (zeros stops) (all (first.stops ∙ stops)));
        off = λ off.
            let (fault, cause) = last.off off in (
              fault,
              elim cause [
                | inl some ↦ inl some
                | inr stopped ↦ let stops : old.stops ≡ true = sym first.stops ∙ stopped.0 in inr (stops, refusal-more results more (zeros stops) stopped.1)
              ],
            );
        stop = λ stops. all_but_last-append (λ r. status r ≡ 0) results more (zeros stops) (last.stop (first.stops ∙ stops));
      }
