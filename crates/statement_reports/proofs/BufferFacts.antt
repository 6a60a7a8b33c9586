-- A writer and a buffer before it: the writer's bytes, and then the texts that the buffer keeps.
use Rattle.std.proofs.Common.{◌++◌, ◌∙◌, ℕ, List, [], Option, Some, None, Result, Ok, Err, refl, sym, append_assoc}
use Rattle.std.specs.Prelude.{OnOk}
use Rattle.std.specs.Io.KnownBytes.{Appends, append_known}

-- the buffer before the first text
pub kept-start : (known : Option (List ℕ)) → Appends known (append_known known []) []
kept-start None = tt
kept-start (Some xs) = refl

-- one text more is in the buffer
pub kept-more : (known : Option (List ℕ)) (texts text : List ℕ) → Appends (append_known known texts) (append_known known (texts ++ text)) text
kept-more None texts text = tt
kept-more (Some xs) texts text = sym (append_assoc xs texts text)

all-written : (old mid new : Option (List ℕ)) (texts whole : List ℕ) → Appends old (append_known mid texts) whole → Appends mid new texts → Appends old new whole
all-written None mid new texts whole before last = tt
all-written (Some xs) None new texts whole before last = absurd before
all-written (Some xs) (Some ys) None texts whole before last = absurd last
all-written (Some xs) (Some ys) (Some zs) texts whole before last = last ∙ before

-- the texts that are left are written, if the writer takes them
pub kept-end : {T E : Type 0} (ended : Result T E) (old mid new : Option (List ℕ)) (texts whole : List ℕ) → Appends old (append_known mid texts) whole → OnOk ended (Appends mid new texts) → OnOk ended (Appends old new whole)
kept-end (Ok x) old mid new texts whole before last = all-written old mid new texts whole before last
kept-end (Err e) old mid new texts whole before last = tt
