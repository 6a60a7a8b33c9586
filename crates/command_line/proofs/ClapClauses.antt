-- Clap's clauses at a command that is known, and the faults that are reported for them.
use Rattle.std.proofs.Common.{◌≡◌, ◌∙◌, ◌∷◌, List, [], ap, inl, inr, subst, sym, true}
use Rattle.clap.specs.Words.{App, HasKind, HasMatchesOf, IsAmong, Kinds, Text, fault_of, found_of, is_simple, is_simple_and_free, kind_of, matches_of, rows_of}
use Rattle.clap.specs.declared.error.Error.{Error}
use Rattle.clap.specs.declared.error.kind.ErrorKind.{ErrorKind}
use Rattle.clap.specs.declared.error.kind.ErrorKind.TheVariants.{OutOfMemory}
use Rattle.clap.specs.declared.parser.matches.ArgMatches.{ArgMatches}
use Rattle.command_line.specs.CommandFaults.{IsReportedFor}
use Rattle.command_line.specs.declared.command.CommandFault.{CommandFault}
use Rattle.command_line.specs.declared.command.CommandFault.TheVariants.{Shown, Mistake, Memory}

module _ (known app : App) (words : List Text) (is : app ≡ known) where
  pub none_found : is_simple_and_free known ≡ true → (is_simple_and_free app ≡ true → fault_of app words ≡ []) → fault_of known words ≡ []
  none_found simple none = ap (λ (a : App). fault_of a words) (sym is) ∙ none (ap is_simple_and_free is ∙ simple)

  pub one_found : (fault : Error) → is_simple_and_free known ≡ true → (is_simple_and_free app ≡ true → HasKind (fault_of app words) fault) → HasKind (fault_of known words) fault
  one_found fault simple one = subst (λ (a : App). HasKind (fault_of a words) fault) is (one (ap is_simple_and_free is ∙ simple))

  pub rows_found : (matches : ArgMatches) → is_simple known ≡ true → HasMatchesOf app words matches → rows_of (found_of matches) ≡ matches_of known words
  rows_found matches simple found = (rw is at found simple).0

-- a fault that is none of clap's is out of memory
pub only_memory : (kinds : Kinds) (fault : Error) → kinds ≡ [] → HasKind kinds fault → kind_of fault ≡ OutOfMemory
only_memory kinds fault none (inl memory) = memory
only_memory [] fault none (inr among) = absurd among
only_memory (kind ∷ kinds) fault none (inr among) = cc

-- a fault that is found is found by a wider test
pub reported_wider : (IsFound IsWider : ErrorKind → Type 0) (fault : CommandFault) → ((kind : ErrorKind) → IsFound kind → IsWider kind) → IsReportedFor IsFound fault → IsReportedFor IsWider fault
reported_wider IsFound IsWider (Shown text) wider (kind, found, request) = (kind, wider kind found, request)
reported_wider IsFound IsWider (Mistake text) wider (kind, found, mistake) = (kind, wider kind found, mistake)
reported_wider IsFound IsWider Memory wider told = tt

-- the fault that is reported for clap's fault is reported for what clap finds
pub fault_for_kinds : (kinds : Kinds) (IsWider : ErrorKind → Type 0) (error : Error) (fault : CommandFault) → HasKind kinds error → (kind_of error ≡ OutOfMemory → fault ≡ Memory)
    → IsReportedFor (λ kind. kind ≡ kind_of error) fault → ((kind : ErrorKind) → IsAmong kind kinds → IsWider kind) → IsReportedFor IsWider fault
fault_for_kinds kinds IsWider error fault (inl none) memory told wider = subst (IsReportedFor IsWider) (sym (memory none)) tt
fault_for_kinds kinds IsWider error fault (inr among) memory told wider =
    reported_wider (λ kind. kind ≡ kind_of error) IsWider fault (λ kind is. wider kind (subst (λ (k : ErrorKind). IsAmong k kinds) (sym is) among)) told
