-- Which texts write octets in hexadecimal.
use Rattle.std.proofs.Common.{◌≡◌, ℕ, ◌%◌, ◌==◌, ◌&&◌, List, length, is_some, Result, Ok, Err, inl, inr, sym, ◌∙◌, refl}
use Rattle.std.specs.List.{list_all}
use Rattle.std.proofs.lemmas.Bool.{and_parts, cases_Bool, eqb-true}
use Rattle.std.proofs.lemmas.List.Sums.{AllPass-from_list_all, list_all-from_AllPass}
use Rattle.hex.specs.Hex.{decode_of, is_hex_digit}
use Rattle.hex.specs.declared.error.FromHexError.{FromHexError}
use Rattle.hex.proofs.HexLemmas.{decode_of-ok, decode_of-digits}
use Rattle.script_core.specs.Words.{octets_or_none, octets_of}

writes_octets : (text : List ℕ) (r : Result (List ℕ) FromHexError) → decode_of text ≡ r
    → ((length text % 2 == 0) && list_all is_hex_digit text) ≡ is_some (octets_or_none r)
writes_octets text (Ok octets) e =
    let ok = decode_of-ok text octets e in
    rw (ok.0, list_all-from_AllPass is_hex_digit text ok.1) refl
writes_octets text (Err fault) e =
    elim (cases_Bool ((length text % 2 == 0) && list_all is_hex_digit text)) [
      | inl digits ↦
          let both = and_parts (length text % 2 == 0) (list_all is_hex_digit text) digits in
          let read = decode_of-digits text (eqb-true (length text % 2) 0 both.0) (AllPass-from_list_all is_hex_digit text both.1) in
          cc (sym read.1 ∙ e)
      | inr none ↦ none
    ]

-- an even count of digits, and no other text
pub is_hexadecimal : (text : List ℕ) → ((length text % 2 == 0) && list_all is_hex_digit text) ≡ is_some (octets_of text)
is_hexadecimal text = writes_octets text (decode_of text) refl
