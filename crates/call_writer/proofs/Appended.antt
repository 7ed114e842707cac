-- A text to which one list of bytes after another is added.
use Rattle.std.proofs.Common.{◌≡◌, ℕ, List, ◌++◌, ap, ◌∙◌, append_assoc}

pub two : (t u v a b : List ℕ) → u ≡ t ++ a → v ≡ u ++ b → v ≡ t ++ (a ++ b)
two t u v a b p q = q ∙ (ap (λ x. x ++ b) p ∙ append_assoc t a b)

pub three : (t u v w a b c : List ℕ) → u ≡ t ++ a → v ≡ u ++ b → w ≡ v ++ c → w ≡ t ++ (a ++ (b ++ c))
three t u v w a b c p q r = two t u w a (b ++ c) p (two u v w b c q r)

pub four : (t u v w x a b c d : List ℕ) → u ≡ t ++ a → v ≡ u ++ b → w ≡ v ++ c → x ≡ w ++ d → x ≡ t ++ (a ++ (b ++ (c ++ d)))
four t u v w x a b c d p q r s = two t u x a (b ++ (c ++ d)) p (three u v w x b c d q r s)

pub five : (t u v w x y a b c d e : List ℕ) → u ≡ t ++ a → v ≡ u ++ b → w ≡ v ++ c → x ≡ w ++ d → y ≡ x ++ e → y ≡ t ++ (a ++ (b ++ (c ++ (d ++ e))))
five t u v w x y a b c d e p q r s z = two t u y a (b ++ (c ++ (d ++ e))) p (four u v w x y b c d e q r s z)

pub six : (t u v w x y z a b c d e f : List ℕ) → u ≡ t ++ a → v ≡ u ++ b → w ≡ v ++ c → x ≡ w ++ d → y ≡ x ++ e → z ≡ y ++ f
    → z ≡ t ++ (a ++ (b ++ (c ++ (d ++ (e ++ f)))))
six t u v w x y z a b c d e f p q r s m n = two t u z a (b ++ (c ++ (d ++ (e ++ f)))) p (five u v w x y z b c d e f q r s m n)

-- the first of them in three parts
pub seven : (t u v w x a b c d e f : List ℕ) → u ≡ t ++ (a ++ (b ++ c)) → v ≡ u ++ d → w ≡ v ++ e → x ≡ w ++ f
    → x ≡ t ++ (a ++ (b ++ (c ++ (d ++ (e ++ f)))))
seven t u v w x a b c d e f p q r s =
    four t u v w x (a ++ (b ++ c)) d e f p q r s
    ∙ ap (λ bytes. t ++ bytes) (append_assoc a (b ++ c) (d ++ (e ++ f)) ∙ ap (λ bytes. a ++ bytes) (append_assoc b c (d ++ (e ++ f))))

-- and two behind it
pub three_parts : (t u v x a b c d e : List ℕ) → u ≡ t ++ (a ++ (b ++ c)) → v ≡ u ++ d → x ≡ v ++ e → x ≡ t ++ (a ++ (b ++ (c ++ (d ++ e))))
three_parts t u v x a b c d e p q r =
    three t u v x (a ++ (b ++ c)) d e p q r
    ∙ ap (λ bytes. t ++ bytes) (append_assoc a (b ++ c) (d ++ e) ∙ ap (λ bytes. a ++ bytes) (append_assoc b c (d ++ e)))
