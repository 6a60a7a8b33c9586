-- A store that is opened, run over and closed.
use Rattle.std.proofs.Common.{◌≡◌, ◌==◌, ◌∷◌, ℕ, Bool, List, [], Option, Result, arith, length, map, false, true}
use Rattle.std.proofs.lemmas.Bool.{eqb-true}
use Rattle.period_core.specs.declared.refusal.Refusal.{Refusal}
use Rattle.sql_statements.specs.Lexemes.{Lexeme}
use Rattle.history_model.specs.Histories.{History}
use Rattle.command_line.specs.declared.fault.RunFault.{RunFault}
use Rattle.bitemporal_file.specs.Sessions.{LeadsThrough}
use Rattle.bitemporal_file.specs.ScriptRuns.{LeadsTo}
use Rattle.bitemporal_file.specs.StoreRuns.{RunsGiven, RunsScripts, RunsSession, failed_in}
use Rattle.bitemporal_file.specs.declared.reporter.Reporter.{Reporter}

module _ {E K W N X : Type 0} (IsStep : History → List Lexeme → K → History → Type 0) (IsStepOver : E → List Lexeme → K → E → Type 0) (Tell : History → List ℕ → List ℕ → History → Type 0) (TellOver : E → List ℕ → List ℕ → E → Type 0) (refused : Refusal → K) (contents : W → Option (List ℕ)) (errors : N → Option (List ℕ)) (text : ℕ → K → List ℕ) (status : K → ℕ) (forgotten : K → ℕ) (First : (History → History → Type 0) → Type 0) (FirstOver : (E → E → Type 0) → Type 0) where
  -- a program without scripts runs a session
  pub given_session : (bytes : X → List ℕ) (content : List ℕ → Option (List ℕ)) (files : List X) (known left : Option (List ℕ)) (failed broken : Bool) (old : Reporter W N) (ended : Result Bool RunFault) (new : Reporter W N) → (length files == 0) ≡ true → RunsSession IsStep IsStepOver Tell TellOver refused contents errors text status forgotten First FirstOver known left failed old ended new →
      RunsGiven IsStep IsStepOver Tell TellOver refused contents errors text status forgotten First FirstOver (map content (map bytes files)) known left (failed_in files failed broken) old ended new
  given_session bytes content [] known left failed broken old ended new none run = run
  given_session bytes content (file ∷ files) known left failed broken old ended new none run =
      let is : length (file ∷ files) ≡ 0 = eqb-true (length (file ∷ files)) 0 none in
      absurd (omega (arith, is))

  -- a program with scripts runs them
  pub given_scripts : (bytes : X → List ℕ) (content : List ℕ → Option (List ℕ)) (files : List X) (known left : Option (List ℕ)) (unread failed : Bool) (old : Reporter W N) (ended : Result Bool RunFault) (new : Reporter W N) → (length files == 0) ≡ false →
      RunsScripts IsStep IsStepOver Tell TellOver refused contents errors text status forgotten First FirstOver (map content (map bytes files)) failed old ended new → RunsGiven IsStep IsStepOver Tell TellOver refused contents errors text status forgotten First FirstOver (map content (map bytes files)) known left (failed_in files unread failed) old ended new
  given_scripts bytes content [] known left unread failed old ended new some run = let no : ⊥ = cc in absurd no
  given_scripts bytes content (file ∷ files) known left unread failed old ended new some run = run

module _ {E K W N : Type 0} (IsStep : History → List Lexeme → K → History → Type 0) (IsStepOver : E → List Lexeme → K → E → Type 0) (Tell : History → List ℕ → List ℕ → History → Type 0) (TellOver : E → List ℕ → List ℕ → E → Type 0) (refused : Refusal → K) (contents : W → Option (List ℕ)) (errors : N → Option (List ℕ)) (text : ℕ → K → List ℕ) (status : K → ℕ) (forgotten : K → ℕ) (First : (History → History → Type 0) → Type 0) (FirstOver : (E → E → Type 0) → Type 0) where
  -- the steps that led to a state, by equivalent relations
  pub given_so : (Second : (History → History → Type 0) → Type 0) (SecondOver : (E → E → Type 0) → Type 0) → ((Led : History → History → Type 0) → First Led → Second Led) → ((Led : E → E → Type 0) → FirstOver Led → SecondOver Led) → (readers : List (Option (List ℕ))) (known left : Option (List ℕ)) (failed : Bool) (old : Reporter W N) (ended : Result Bool RunFault) (new : Reporter W N) →
      RunsGiven IsStep IsStepOver Tell TellOver refused contents errors text status forgotten First FirstOver readers known left failed old ended new → RunsGiven IsStep IsStepOver Tell TellOver refused contents errors text status forgotten Second SecondOver readers known left failed old ended new
  given_so Second SecondOver so over [] known left failed old ended new (runs, parts, run, ends, led, did) = (runs, parts, run, ends, so (λ history last. LeadsThrough IsStep refused Tell 0 history runs last) led, over (λ first last. LeadsThrough IsStepOver refused TellOver 0 first runs last) did)
  given_so Second SecondOver so over (reader ∷ readers) known left failed old ended new (runs, are, run, ends, led, did) = (runs, are, run, ends, so (λ history last. LeadsTo IsStep history runs last) led, over (λ first last. LeadsTo IsStepOver first runs last) did)
