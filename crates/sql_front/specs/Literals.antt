-- The meaning of the literals of a statement.
use Rattle.std.specs.Prelude.{ℕ, ℤ}
use Rattle.sql_front.specs.Language.{Language, OneToken, Related, number, text}
use Rattle.sql_front.specs.LiteralValues.{NamesClockMoment, NamesDay, NamesMoment, NamesNegative}
use Rattle.sql_front.specs.LiteralValues.{NamesNumber}

-- the tokens that spell numbers, days and moments
pub record Literals : Type 1 where
  -- a number without a sign, or with a plus
  pub plain_number : Language ℕ
  -- a number after a minus
  pub minus_number : Language ℤ
  -- a text after DATE
  pub day : Language ℤ
  -- a text after TIMESTAMP
  pub moment : Language ℤ
  -- a text after TIMESTAMP, if the open end is none
  pub clock_moment : Language ℤ

-- each token is the value that it names
abbrev pub exact : Literals
exact = record {
  plain_number = Related NamesNumber (OneToken number);
  minus_number = Related NamesNegative (OneToken number);
  day = Related NamesDay (OneToken text);
  moment = Related NamesMoment (OneToken text);
  clock_moment = Related NamesClockMoment (OneToken text);
}

-- whatever the token, whatever the value
abbrev pub Anything : {A B : Type 0} → A → B → Type 0
Anything token value = Unit {0}

-- each token may be any value
abbrev pub any_value : Literals
any_value = record {
  plain_number = Related Anything (OneToken number);
  minus_number = Related Anything (OneToken number);
  day = Related Anything (OneToken text);
  moment = Related Anything (OneToken text);
  clock_moment = Related Anything (OneToken text);
}
