-- Text that is appended part by part.
use Rattle.std.proofs.Common.{◌≡◌, ◌++◌, ap, ◌∙◌}
use Rattle.std.proofs.lemmas.List.{append_assoc}
use Rattle.pool_law.specs.Text.{Text}

pub named-part : (a b w n : Text) → b ≡ a ++ w ++ n → b ≡ a ++ (w ++ n)
named-part a b w n p = p ∙ append_assoc a w n

pub two-parts : (a b c x y : Text) → b ≡ a ++ x → c ≡ b ++ y → c ≡ a ++ (x ++ y)
two-parts a b c x y p q = q ∙ ap (λ (t : Text). t ++ y) p ∙ append_assoc a x y

pub three-parts : (a b c d x y z : Text) → b ≡ a ++ x → c ≡ b ++ y → d ≡ c ++ z → d ≡ a ++ (x ++ y ++ z)
three-parts a b c d x y z p q r = two-parts a c d (x ++ y) z (two-parts a b c x y p q) r

pub four-parts : (a b c d e w x y z : Text) → b ≡ a ++ w → c ≡ b ++ x → d ≡ c ++ y → e ≡ d ++ z →
    e ≡ a ++ (w ++ x ++ y ++ z)
four-parts a b c d e w x y z o p q r = two-parts a d e (w ++ x ++ y) z (three-parts a b c d w x y o p q) r
