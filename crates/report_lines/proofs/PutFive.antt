-- Texts that are put one after another.
use Rattle.std.proofs.Common.{◌≡◌, ℕ, List, ◌++◌, append_assoc}

-- five texts, put one after another
pub put_five : (old one two three four last a b c d e : List ℕ) → one ≡ old ++ a → two ≡ one ++ b → three ≡ two ++ c → four ≡ three ++ d
    → last ≡ four ++ e → last ≡ old ++ (a ++ b ++ c ++ d ++ e)
put_five old one two three four last a b c d e p q r s t = rw (t, s, r, q, p) (simp append_assoc)
