use Rattle.std.proofs.Common.{◌∙◌, ℕ, List, Bor, ap, arith, map, rules}
use Rattle.sql_statements.proofs.WordsFacts.{among_texts, by_length, too_long, too_short}
use Rattle.sql_statements.specs.Words.{is_among}
use Rattle.sql_statements.proofs.words.is_reserved.Goals as goal

pub returns-in-6 : goal.returns-in-6
returns-in-6 c =
    c.is_among.ensures ∙ among_texts c.args.text.now c.as_slice.result.now
    ∙ ap (λ (words : List (Bor (List ℕ))). is_among c.args.text.now (map (λ (word : Bor (List ℕ)). word.now) words)) c.as_slice.ensures
    ∙ by_length 6 6 c.args.text.now (omega arith) (omega arith)

pub returns-in-2-to-3 : goal.returns-in-2-to-3
returns-in-2-to-3 c =
    c.is_among-in-2-to-3.ensures ∙ among_texts c.args.text.now c.as_slice-in-2-to-3.result.now
    ∙ ap (λ (words : List (Bor (List ℕ))). is_among c.args.text.now (map (λ (word : Bor (List ℕ)). word.now) words)) c.as_slice-in-2-to-3.ensures
    ∙ by_length 2 3 c.args.text.now (omega arith) (omega arith)

pub returns-in-4-to-5 : goal.returns-in-4-to-5
returns-in-4-to-5 c =
    c.is_among-in-4-to-5.ensures ∙ among_texts c.args.text.now c.as_slice-in-4-to-5.result.now
    ∙ ap (λ (words : List (Bor (List ℕ))). is_among c.args.text.now (map (λ (word : Bor (List ℕ)). word.now) words)) c.as_slice-in-4-to-5.ensures
    ∙ by_length 4 5 c.args.text.now (omega arith) (omega arith)

pub returns-in-7-to-8 : goal.returns-in-7-to-8
returns-in-7-to-8 c =
    c.is_among-in-7-to-8.ensures ∙ among_texts c.args.text.now c.as_slice-in-7-to-8.result.now
    ∙ ap (λ (words : List (Bor (List ℕ))). is_among c.args.text.now (map (λ (word : Bor (List ℕ)). word.now) words)) c.as_slice-in-7-to-8.ensures
    ∙ by_length 7 8 c.args.text.now (omega arith) (omega arith)

pub returns-in-9-to-11 : goal.returns-in-9-to-11
returns-in-9-to-11 c =
    c.is_among-in-9-to-11.ensures ∙ among_texts c.args.text.now c.as_slice-in-9-to-11.result.now
    ∙ ap (λ (words : List (Bor (List ℕ))). is_among c.args.text.now (map (λ (word : Bor (List ℕ)). word.now) words)) c.as_slice-in-9-to-11.ensures
    ∙ by_length 9 11 c.args.text.now (omega arith) (omega arith)

pub returns-in_default : goal.returns-in_default
returns-in_default c = search (rules, too_short)

pub returns-in_default-2 : goal.returns-in_default-2
returns-in_default-2 c = search (rules, too_long)
