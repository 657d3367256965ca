use Rattle.bridge_core.proofs.laws.aging_setting_is_bounded.Goals as goal

pub returns : goal.returns
returns c = λ v. (λ h. h, λ h. h)
