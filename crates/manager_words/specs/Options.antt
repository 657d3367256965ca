-- The words of a manager as `clap` reads them: one command with a subcommand for each kind of request.
use Rattle.std.specs.Prelude.{pos, codes, true, false, List, [], ◌∷◌, Some}
use Rattle.clap.specs.Lexer.{usize_max}
use Rattle.clap.specs.Words.{App, Rule, Shape, Text, new_rule}
use Rattle.clap.specs.Simple.{new_shape}
use Rattle.clap.specs.declared.builder.value_parser.ValueParser.TheVariants as parser

-- one word that has to stand
abbrev pub one_word : Text → Rule
one_word id = record (new_rule id) { required = true }

-- one word or more
abbrev pub some_words : Text → Rule
some_words id = record (one_word id) {
  range = Some (record { start_inclusive = 1; end_inclusive = usize_max });
}

-- a number of a GetBulk (RFC 3416, section 3)
abbrev pub bulk_number : Text → Rule
bulk_number id = record (one_word id) { parser = Some (parser.Signed (pos 0) (pos 2147483647)) }

-- `--tries` and how often a request is sent at most
abbrev pub tries_option : Rule
tries_option = record (new_rule (codes "TRIES")) {
  long = Some (codes "tries");
  parser = Some (parser.Signed (pos 1) (pos 10));
}

-- a request to an agent, by a community and with the words that say what is asked for
abbrev pub request_shape : Text → List Rule → Shape
request_shape name words = record (new_shape name) {
  rules = tries_option ∷ (one_word (codes "ADDRESS") ∷ (one_word (codes "COMMUNITY") ∷ words));
}

abbrev pub names_shape : Text → Shape
names_shape name = request_shape name (some_words (codes "NAME") ∷ [])

abbrev pub bulk_shape : Shape
bulk_shape = request_shape (codes "bulk") (bulk_number (codes "N") ∷ (bulk_number (codes "M") ∷ (some_words (codes "NAME") ∷ [])))

abbrev pub walk_shape : Shape
walk_shape = request_shape (codes "walk") (one_word (codes "NAME") ∷ [])

abbrev pub set_shape : Shape
set_shape = request_shape (codes "set") (some_words (codes "SETTING") ∷ [])

-- what stands in front of a request
abbrev pub manager_shape : Shape
manager_shape = record (new_shape (codes "manager")) {
  rules = tries_option ∷ [];
  has_version = true;
  disable_help_subcommand = true;
  subcommand_required = true;
}

-- The words of a manager.
abbrev pub manager_app : App
manager_app = record {
  top = record manager_shape { is_leaf = false };
  subs = names_shape (codes "get") ∷ (names_shape (codes "next") ∷ (bulk_shape ∷ (walk_shape ∷ (set_shape ∷ []))));
}
