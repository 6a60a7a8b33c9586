use Rattle.std.proofs.Common.{◌∙◌, ℕ, List, ap, drop, refl}
use Rattle.std.proofs.lemmas.Str.Ascii.{trim_ascii_is}
use Rattle.std.specs.Char.{is_ascii_whitespace}
use Rattle.std.specs.List.{prefix_len}
use Rattle.bitemporal_file.specs.Commands.{unled, untrailed}
use Rattle.bitemporal_file.proofs.commands.file_in.Goals as goal

pub returns : goal.returns
returns c =
    let text : List ℕ = c.after_word.result.now in
    trim_ascii_is text c.trim_ascii.result.now (drop (prefix_len is_ascii_whitespace text) text) refl c.trim_ascii.ensures.value
    ∙ ap (λ (t : List ℕ). untrailed (unled t)) c.after_word.ensures
