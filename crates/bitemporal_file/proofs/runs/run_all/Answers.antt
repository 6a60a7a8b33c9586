use Rattle.std.proofs.Common.{◌≡◌, ◌<◌, ◌+◌, ◌++◌, ◌∷◌, ◌∙◌, ℕ, List, [], Option, Result, Ok, Err, Bool, ap, arith, drop, get_or, length, map, refl, string_bytes, subst, sym, take, take_all, true, false}
use Rattle.std.proofs.lemmas.Result.{err_from_is_err_and}
use Rattle.version_store.proofs.Beside.{spares_same, spares_then}
use Rattle.command_line.specs.declared.fault.RunFault.{RunFault}
use Rattle.bitemporal_file.specs.ScriptRuns.{AreOfReaders, AreRun, Ends}
use Rattle.std.proofs.lemmas.List.Elements.{All-nil}
use Rattle.bitemporal_file.proofs.RunFacts.{all_ran, ends_more, ends_within, known-all, known-next, leads-more, more_ran, none_yet, quiet_of, readers-more, readers-within, whole_ran}
use Rattle.bitemporal_file.proofs.runs.run_all.Goals as goal

pub loop-name-init : goal.loop-name-init
loop-name-init g c = record {
  quiet = c.requires;
  same = refl;
  usable = λ usable. usable;
  others = spares_same g.S.Store c.args.engine.now.connection c.args.engine.now.connection (λ usable. refl);
  ran = ([], tt, All-nil _, none_yet g.W.Write.contents g.E.Write.contents g.K.Reported.text g.K.Reported.status_of g.K.Reported.forgotten_of c.args.scripts.now.has_failed c.args.reporter.now c.requires, refl, λ usable history stands. (history, refl, stands));
}

pub loop-name-preserved : goal.loop-name-preserved
loop-name-preserved g c =
    let contents = g.W.Write.contents in
    let errors = g.E.Write.contents in
    let text = g.K.Reported.text in
    let status = g.K.Reported.status_of in
    let forgotten = g.K.Reported.forgotten_of in
    let content = g.Q.Scripts.content c.args.scripts.now.scripts.now in
    let names = c.args.names.now in
    let i = c.loop-name.name-index in
    let old = c.args.reporter.now in
    let new = c.run_named.new.reporter in
    let (runs, are, wholes, ends, over, did) = c.loop-name.invariant.ran in
    let (more, its, run, last, stepped, went) = c.run_named.ensures.ran in
    let name = c.name-item.result in
    let inside : i < length names = omega arith in
    let readers = map content (map string_bytes (take i names)) in
    let known = content (string_bytes (get_or names i name)) in
    let same : g.Q.Scripts.content c.loop-name.scripts.scripts.now c.as_str.result.now ≡ known = (λ k. g.Q.Scripts.content (c.loop-name.invariant.same k).now c.as_str.result.now) ∙ ap content c.as_str.ensures.value ∙ ap (λ n. content (string_bytes n)) c.name-item.is in
    let next = known-next string_bytes content names i name inside in
    let whole : c.run_named.result ≡ Ok true = c.in_ok-goes_on.was ∙ ap Ok c.if-not-goes_on.false in
    let quiet = quiet_of contents errors text status forgotten new.fault c.run_named.result true last.faulty whole in
    let its_known = subst (λ (k : Option (List ℕ)). AreOfReaders (k ∷ []) more) same its in
    let last_known = subst (λ (k : Option (List ℕ)). Ends contents errors text status forgotten (k ∷ []) c.run_named.new.scripts.has_failed c.loop-name.reporter more c.run_named.result new) same last in
    let last_whole = subst (λ (ended : Result Bool RunFault). Ends contents errors text status forgotten (known ∷ []) c.run_named.new.scripts.has_failed c.loop-name.reporter more ended new) whole last_known in
    let count = (ends.whole refl).0 in
    record {
      quiet = quiet;
      same = c.run_named.ensures.same ∙ c.loop-name.invariant.same;
      usable = λ usable. c.loop-name.invariant.usable (c.run_named.ensures.usable usable);
      others = spares_then g.S.Store c.args.engine.now.connection c.loop-name.engine.connection c.run_named.new.engine.connection c.loop-name.invariant.others c.run_named.ensures.usable c.run_named.ensures.others;
      ran = (
        runs ++ more,
        subst (λ (rs : List (Option (List ℕ))). AreOfReaders rs (runs ++ more)) (sym next) (readers-more contents errors text status forgotten readers known runs more count are its_known),
        whole_ran runs more c.run_named.result new.fault wholes run whole quiet,
        subst (λ (rs : List (Option (List ℕ))). Ends contents errors text status forgotten rs c.run_named.new.scripts.has_failed old (runs ++ more) (Ok true) new) (sym next) (ends_more contents errors text status forgotten readers c.loop-name.scripts.has_failed c.run_named.new.scripts.has_failed known old runs c.loop-name.reporter more (Ok true) new c.loop-name.invariant.quiet ends last_whole),
        leads-more g.K.PieceResult.is_step_over c.args.engine.now runs more c.loop-name.engine c.run_named.new.engine over stepped,
        λ usable history stands.
            let (middle, leads, represents) = did (c.run_named.ensures.usable usable) history stands in
            let (after, leads_on, represents_after) = went usable middle represents in
            (after, leads-more g.K.PieceResult.is_step history runs more middle after leads leads_on, represents_after),
      );
    }

pub returns-in_err-goes_on-clause-ran : goal.returns-in_err-goes_on-clause-ran
returns-in_err-goes_on-clause-ran g c =
    let contents = g.W.Write.contents in
    let errors = g.E.Write.contents in
    let text = g.K.Reported.text in
    let status = g.K.Reported.status_of in
    let forgotten = g.K.Reported.forgotten_of in
    let content = g.Q.Scripts.content c.args.scripts.now.scripts.now in
    let names = c.args.names.now in
    let i = c.loop-name.name-index in
    let old = c.args.reporter.now in
    let new = c.run_named.new.reporter in
    let (runs, are, wholes, ends, over, did) = c.loop-name.invariant.ran in
    let (more, its, run, last, stepped, went) = c.run_named.ensures.ran in
    let name = c.name-item.result in
    let inside : i < length names = omega arith in
    let readers = map content (map string_bytes (take i names)) in
    let known = content (string_bytes (get_or names i name)) in
    let same : g.Q.Scripts.content c.loop-name.scripts.scripts.now c.as_str.result.now ≡ known = (λ k. g.Q.Scripts.content (c.loop-name.invariant.same k).now c.as_str.result.now) ∙ ap content c.as_str.ensures.value ∙ ap (λ n. content (string_bytes n)) c.name-item.is in
    let next = known-next string_bytes content names i name inside in
    let whole : c.run_named.result ≡ Err c.in_err-goes_on.field-0.0 = c.in_err-goes_on.was in
    let its_known = subst (λ (k : Option (List ℕ)). AreOfReaders (k ∷ []) more) same its in
    let last_known = subst (λ (k : Option (List ℕ)). Ends contents errors text status forgotten (k ∷ []) c.run_named.new.scripts.has_failed c.loop-name.reporter more c.run_named.result new) same last in
    let last_whole = subst (λ (e : Result Bool RunFault). Ends contents errors text status forgotten (known ∷ []) c.run_named.new.scripts.has_failed c.loop-name.reporter more e new) whole last_known in
    let count = (ends.whole refl).0 in
    let rest = map content (map string_bytes (drop (i + 1) names)) in
    let all : (readers ++ known ∷ []) ++ rest ≡ map content (map string_bytes names) = ap (λ (rs : List (Option (List ℕ))). rs ++ rest) (sym next) ∙ known-all string_bytes content names (i + 1) in
    let met = ends_more contents errors text status forgotten readers c.loop-name.scripts.has_failed c.run_named.new.scripts.has_failed known old runs c.loop-name.reporter more (Err c.in_err-goes_on.field-0.0) new c.loop-name.invariant.quiet ends last_whole in
    let p = err_from_is_err_and c.from_residual.result c.from_residual.ensures.1 in
    rw (p.1, p.2) (
      runs ++ more,
      subst (λ (rs : List (Option (List ℕ))). AreOfReaders rs (runs ++ more)) all (readers-within contents errors text status forgotten (readers ++ known ∷ []) rest (runs ++ more) (readers-more contents errors text status forgotten readers known runs more count are its_known)),
      more_ran runs more (Err c.in_err-goes_on.field-0.0) new.fault wholes (subst (λ (ended : Result Bool RunFault). AreRun more ended new.fault) whole run),
      subst (λ (rs : List (Option (List ℕ))). Ends contents errors text status forgotten rs c.run_named.new.scripts.has_failed old (runs ++ more) (Err c.in_err-goes_on.field-0.0) new) all (ends_within contents errors text status forgotten (readers ++ known ∷ []) rest c.run_named.new.scripts.has_failed old (runs ++ more) (Err c.in_err-goes_on.field-0.0) new (λ on. let no : ⊥ = cc in no) met),
      leads-more g.K.PieceResult.is_step_over c.args.engine.now runs more c.loop-name.engine c.run_named.new.engine over stepped,
      λ usable history stands.
          let (middle, leads, represents) = did (c.run_named.ensures.usable usable) history stands in
          let (after, leads_on, represents_after) = went usable middle represents in
          (after, leads-more g.K.PieceResult.is_step history runs more middle after leads leads_on, represents_after),
    )

pub returns-then-not-goes_on-clause-ran : goal.returns-then-not-goes_on-clause-ran
returns-then-not-goes_on-clause-ran g c =
    let contents = g.W.Write.contents in
    let errors = g.E.Write.contents in
    let text = g.K.Reported.text in
    let status = g.K.Reported.status_of in
    let forgotten = g.K.Reported.forgotten_of in
    let content = g.Q.Scripts.content c.args.scripts.now.scripts.now in
    let names = c.args.names.now in
    let i = c.loop-name.name-index in
    let old = c.args.reporter.now in
    let new = c.run_named.new.reporter in
    let (runs, are, wholes, ends, over, did) = c.loop-name.invariant.ran in
    let (more, its, run, last, stepped, went) = c.run_named.ensures.ran in
    let name = c.name-item.result in
    let inside : i < length names = omega arith in
    let readers = map content (map string_bytes (take i names)) in
    let known = content (string_bytes (get_or names i name)) in
    let same : g.Q.Scripts.content c.loop-name.scripts.scripts.now c.as_str.result.now ≡ known = (λ k. g.Q.Scripts.content (c.loop-name.invariant.same k).now c.as_str.result.now) ∙ ap content c.as_str.ensures.value ∙ ap (λ n. content (string_bytes n)) c.name-item.is in
    let next = known-next string_bytes content names i name inside in
    let whole : c.run_named.result ≡ Ok false = c.in_ok-goes_on.was ∙ ap Ok c.if-not-goes_on.true in
    let its_known = subst (λ (k : Option (List ℕ)). AreOfReaders (k ∷ []) more) same its in
    let last_known = subst (λ (k : Option (List ℕ)). Ends contents errors text status forgotten (k ∷ []) c.run_named.new.scripts.has_failed c.loop-name.reporter more c.run_named.result new) same last in
    let last_whole = subst (λ (e : Result Bool RunFault). Ends contents errors text status forgotten (known ∷ []) c.run_named.new.scripts.has_failed c.loop-name.reporter more e new) whole last_known in
    let count = (ends.whole refl).0 in
    let rest = map content (map string_bytes (drop (i + 1) names)) in
    let all : (readers ++ known ∷ []) ++ rest ≡ map content (map string_bytes names) = ap (λ (rs : List (Option (List ℕ))). rs ++ rest) (sym next) ∙ known-all string_bytes content names (i + 1) in
    let met = ends_more contents errors text status forgotten readers c.loop-name.scripts.has_failed c.run_named.new.scripts.has_failed known old runs c.loop-name.reporter more (Ok false) new c.loop-name.invariant.quiet ends last_whole in (
      runs ++ more,
      subst (λ (rs : List (Option (List ℕ))). AreOfReaders rs (runs ++ more)) all (readers-within contents errors text status forgotten (readers ++ known ∷ []) rest (runs ++ more) (readers-more contents errors text status forgotten readers known runs more count are its_known)),
      more_ran runs more (Ok false) new.fault wholes (subst (λ (ended : Result Bool RunFault). AreRun more ended new.fault) whole run),
      subst (λ (rs : List (Option (List ℕ))). Ends contents errors text status forgotten rs c.run_named.new.scripts.has_failed old (runs ++ more) (Ok false) new) all (ends_within contents errors text status forgotten (readers ++ known ∷ []) rest c.run_named.new.scripts.has_failed old (runs ++ more) (Ok false) new (λ on. let no : ⊥ = cc in no) met),
      leads-more g.K.PieceResult.is_step_over c.args.engine.now runs more c.loop-name.engine c.run_named.new.engine over stepped,
      λ usable history stands.
          let (middle, leads, represents) = did (c.run_named.ensures.usable usable) history stands in
          let (after, leads_on, represents_after) = went usable middle represents in
          (after, leads-more g.K.PieceResult.is_step history runs more middle after leads leads_on, represents_after),
    )

pub returns-clause-ran : goal.returns-clause-ran
returns-clause-ran g c =
    let contents = g.W.Write.contents in
    let errors = g.E.Write.contents in
    let text = g.K.Reported.text in
    let status = g.K.Reported.status_of in
    let forgotten = g.K.Reported.forgotten_of in
    let content = g.Q.Scripts.content c.args.scripts.now.scripts.now in
    let names = c.args.names.now in
    let (runs, are, wholes, ends, over, did) = c.loop-name.invariant.ran in
    let all = take_all c.loop-name.name-index names (omega arith) in
    let known = ap (λ ns. map content (map string_bytes ns)) all in (
      runs,
      subst (λ (rs : List (Option (List ℕ))). AreOfReaders rs runs) known are,
      all_ran runs (Ok true) c.loop-name.reporter.fault wholes,
      subst (λ (rs : List (Option (List ℕ))). Ends contents errors text status forgotten rs c.loop-name.scripts.has_failed c.args.reporter.now runs (Ok true) c.loop-name.reporter) known ends,
      over,
      did,
    )

-- ---- the other tables of the database

pub returns-in_err-goes_on-clause-others : goal.returns-in_err-goes_on-clause-others
returns-in_err-goes_on-clause-others g c =
    spares_then g.S.Store c.args.engine.now.connection c.loop-name.engine.connection c.run_named.new.engine.connection c.loop-name.invariant.others c.run_named.ensures.usable c.run_named.ensures.others

pub returns-then-not-goes_on-clause-others : goal.returns-then-not-goes_on-clause-others
returns-then-not-goes_on-clause-others g c =
    spares_then g.S.Store c.args.engine.now.connection c.loop-name.engine.connection c.run_named.new.engine.connection c.loop-name.invariant.others c.run_named.ensures.usable c.run_named.ensures.others
