-- Names and reserved words are apart.
use Rattle.std.proofs.Common.{◌≡◌, ℕ, Bool, true, false, not, List, refl, ◌∙◌, inl, inr, ◌&&◌}
use Rattle.std.proofs.lemmas.Bool.{and_parts, cases_Bool, both_ways}
use Rattle.std.proofs.lemmas.Slice.Eq.{bytes_eq-Decides}
use Rattle.std.specs.Str.{bytes_eq}
use Rattle.sql_statements.specs.Words.{folded, is_among, reserved, is_reserved}
use Rattle.sql_statements.specs.Names.{is_plain_word, is_word_text}
use Rattle.sql_statements.specs.declared.token.TokenKind.TheVariants.{Word}
use Rattle.sql_front.specs.Language.{keyword, is_word}
use Rattle.sql_front.specs.Grammar.{name}
use Rattle.sql_front.proofs.First.{Apart, OfKind, is_word-kind}
use Rattle.sql_statements.proofs.WordsFacts.{listed, reserved_same}

pub name_kind : OfKind name Word
name_kind = record { is = λ t e. is_word-kind t.kind (and_parts (is_word t.kind) (is_plain_word t.text) e).0 }

-- a reserved word is no name
not_name : (k w b : Bool) → b ≡ true → (k && (w && not b)) ≡ false
not_name true true b e = rw e refl
not_name true false b e = refl
not_name false w b e = refl

pub keyword_not_name : (w : List ℕ) → is_among w reserved ≡ true → Apart (keyword w) name
unfolding is_plain_word
keyword_not_name w h = record {
  apart = λ t e.
      let same : folded t.text ≡ folded w = (bytes_eq-Decides (folded t.text) (folded w)).0 (and_parts (is_word t.kind) (bytes_eq (folded t.text) (folded w)) e).1 in
      not_name (is_word t.kind) (is_word_text t.text) (is_reserved t.text) (reserved_same t.text w same ∙ listed w h);
}

pub name_not_keyword : (w : List ℕ) → is_among w reserved ≡ true → Apart name (keyword w)
name_not_keyword w h = record {
  apart = λ t e. elim (cases_Bool (keyword w t)) [
    | inl k ↦ absurd (both_ways (name t) ((keyword_not_name w h).apart t k) e)
    | inr k ↦ k
  ];
}
