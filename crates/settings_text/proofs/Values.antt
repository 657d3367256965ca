-- Numbers that are written are read again.
use Rattle.std.proofs.Common.{◌≡◌, ◌⊎◌, ℕ, pos, ◌≤◌, ◌-◌, ◌^◌, ◌%◌, Bool, true, false, ◌&&◌, ◌||◌, cond, nat_le, Option, Some, None, refl, sym, ap, ◌∙◌, arith, inl, inr}
use Rattle.std.specs.Prelude.{◌==◌}
use Rattle.std.specs.Option.{option_or}
use Rattle.std.proofs.lemmas.Bool.{cases_Bool}
use Rattle.std.proofs.lemmas.Bool.Decides.{nat_tests}
use Rattle.rstp_settings.specs.Values.{IsStep, IsBridgeRange, IsPortRange}
use Rattle.rstp_settings.specs.declared.key.BridgeKey.{BridgeKey}
use Rattle.rstp_settings.specs.declared.key.BridgeKey.TheVariants as bridge
use Rattle.rstp_settings.specs.declared.key.PortKey.{PortKey}
use Rattle.rstp_settings.specs.declared.key.PortKey.TheVariants as port
use Rattle.rstp_settings.specs.declared.key.TheConstants.{MIN_AGING, MAX_AGING}
use Rattle.policy_text.specs.Reading.{◌>=>◌}
use Rattle.settings_text.specs.Numbers.{number_between, number_in, number_or, is_step, is_bridge_value, is_port_value, if_true}
use Rattle.settings_text.specs.Writing.{number, unless}

pub le_true : (a b : ℕ) → a ≤ b → nat_le a b ≡ true
le_true a b h = grind (arith, nat_tests, h)

eq_true : (a b : ℕ) → a ≡ b → (a == b) ≡ true
eq_true a b h = grind (arith, nat_tests, h)

true_eq : (a b : ℕ) → (a == b) ≡ true → a ≡ b
true_eq a b h = grind (arith, nat_tests, h)

pub between : (least most n : ℕ) → least ≤ n → n ≤ most → number_between least most (pos n) ≡ Some n
between least most n x y = rw (le_true least n x, le_true n most y) refl

pub number_back : (opening n : ℕ) → n ≤ 2 ^ 32 - 1 → number_or opening (option_or (unless opening n) None) ≡ Some n
number_back opening n fits =
    elim (cases_Bool (n == opening)) [
      | inl same ↦ rw same (ap Some (sym (true_eq n opening same)))
      | inr other ↦ rw other (between 0 (2 ^ 32 - 1) n (omega arith) fits)
    ]

step_true : (least most step n : ℕ) → IsStep least most step n → is_step least most step n ≡ true
step_true least most step n h = rw (le_true least n h.0, le_true n most h.1, eq_true (n % step) 0 h.2) refl

two_true : (a b n : ℕ) → a ≤ n → n ≤ b → (nat_le a n && nat_le n b) ≡ true
two_true a b n x y = rw (le_true a n x, le_true n b y) refl

pub bridge_true : (key : BridgeKey) (n : ℕ) → IsBridgeRange key n → is_bridge_value key n ≡ true
bridge_true bridge.Priority n h = step_true 0 61440 4096 n h
bridge_true bridge.MaxAge n h = step_true 600 4000 100 n h
bridge_true bridge.Hello n h = step_true 100 1000 100 n h
bridge_true bridge.ForwardDelay n h = step_true 400 3000 100 n h
bridge_true bridge.Version n (inl h) = rw h refl
bridge_true bridge.Version n (inr h) = rw h refl
bridge_true bridge.HoldCount n h = two_true 1 10 n h.0 h.1
bridge_true bridge.Aging n h = two_true MIN_AGING MAX_AGING n h.0 h.1

pub bridge_fits : (key : BridgeKey) (n : ℕ) → IsBridgeRange key n → n ≤ 2 ^ 32 - 1
bridge_fits bridge.Priority n h = omega (arith, h.1)
bridge_fits bridge.MaxAge n h = omega (arith, h.1)
bridge_fits bridge.Hello n h = omega (arith, h.1)
bridge_fits bridge.ForwardDelay n h = omega (arith, h.1)
bridge_fits bridge.Version n (inl h) = omega (arith, h)
bridge_fits bridge.Version n (inr h) = omega (arith, h)
bridge_fits bridge.HoldCount n h = omega (arith, h.1)
bridge_fits bridge.Aging n h = omega (arith, h.1)

pub port_true : (key : PortKey) (n : ℕ) → IsPortRange key n → is_port_value key n ≡ true
port_true port.Priority n h = step_true 0 240 16 n h
port_true port.Enable n h = two_true 1 2 n h.0 h.1
port_true port.Cost n h = le_true n 200000000 h
port_true port.Migrate n h = le_true n 1 h
port_true port.Edge n h = two_true 1 2 n h.0 h.1
port_true port.PointToPoint n h = le_true n 2 h

pub port_fits : (key : PortKey) (n : ℕ) → IsPortRange key n → n ≤ 2 ^ 32 - 1
port_fits port.Priority n h = omega (arith, h.1)
port_fits port.Enable n h = omega (arith, h.1)
port_fits port.Cost n h = omega (arith, h)
port_fits port.Migrate n h = omega (arith, h)
port_fits port.Edge n h = omega (arith, h.1)
port_fits port.PointToPoint n h = omega (arith, h)

-- a number that is written under a word, where it is one that the setting may have
pub kept_back : (test : ℕ → Bool) (opening n : ℕ) → n ≤ 2 ^ 32 - 1 → test n ≡ true → (number_or opening (option_or (unless opening n) None) >=> if_true test) ≡ Some n
kept_back test opening n fits may = rw (number_back opening n fits, may) refl
