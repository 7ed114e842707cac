-- What a sink has taken of the bytes of a run, and what the other one.
use Rattle.std.proofs.Common.{◌≡◌, ◌≢◌, ℕ, ◌⊎◌, List, [], Option, Some, None, Result, Ok, Err, IfOk, MatchResult, true, ap, sym, subst, ◌∙◌, refl, inl, inr, append-nil}
use Rattle.tool_run.specs.Run.{IsWritten, Taking}
use Rattle.tool_run.specs.Statuses.{IsSettled}
use Rattle.tool_run.specs.Say.{TookAll, TookPart}
use Rattle.tool_run.specs.Sink.{more_taken}

pub more_none : (taken : Option (List ℕ)) → more_taken taken [] ≡ taken
more_none None = refl
more_none (Some before) = ap Some (append-nil before)

-- a sink took all bytes, or a part of them, and the other took nothing
record TookWhole (bytes : List ℕ) (status result : ℕ) (sink other : Taking) : Type 0 where
  is_status : result ≡ status
  all : TookAll bytes sink.0 sink.1
  nothing : other.1.taken ≡ more_taken other.0.taken []

pub record TookSome (bytes : List ℕ) (result : ℕ) (sink other : Taking) : Type 0 where
  pub is_five : result ≡ 5
  pub part : TookPart bytes sink.0 sink.1
  pub nothing : other.1.taken ≡ other.0.taken

whole_or_some : (bytes : List ℕ) (status result : ℕ) (sink other : Taking) → IsWritten bytes status result sink other
    → TookWhole bytes status result sink other ⊎ TookSome bytes result sink other
whole_or_some bytes status result sink other written = elim written.0 [
  | inl all ↦ inl (record { is_status = all.0; all = all.1; nothing = written.1 ∙ sym (more_none other.0.taken) })
  | inr part ↦ inr (record { is_five = part.0; part = part.1; nothing = written.1 })
]

-- each sink took all that is said to it
pub record TookBoth (of_end : ℕ) (to_out to_err : List ℕ) (result : ℕ) (out err : Taking) : Type 0 where
  pub status : result ≡ of_end
  pub on_out : out.1.taken ≡ more_taken out.0.taken to_out
  pub on_err : err.1.taken ≡ more_taken err.0.taken to_err

-- bytes that go to `err` are all said, or cut short
pub err_said : (bytes : List ℕ) (status result : ℕ) (out err : Taking) → IsWritten bytes status result err out
    → TookBoth status [] bytes result out err ⊎ TookSome bytes result err out
err_said bytes status result out err written = elim (whole_or_some bytes status result err out written) [
  | inl whole ↦ inl (record { status = whole.is_status; on_out = whole.nothing; on_err = whole.all.is })
  | inr part ↦ inr part
]

-- and so those that go to `out`
pub out_said : (bytes : List ℕ) (status result : ℕ) (out err : Taking) → IsWritten bytes status result out err
    → TookBoth status bytes [] result out err ⊎ TookSome bytes result out err
out_said bytes status result out err written = elim (whole_or_some bytes status result out err written) [
  | inl whole ↦ inl (record { status = whole.is_status; on_out = whole.all.is; on_err = whole.nothing })
  | inr part ↦ inr part
]

-- the sink of the bytes is settled, unless they were cut short
pub settled_all : (bytes : List ℕ) (status result : ℕ) (sink other : Taking) → IsWritten bytes status result sink other → result ≢ 5
    → (result ≡ status) × (sink.1.settled ≡ true)
settled_all bytes status result sink other written whole = elim (whole_or_some bytes status result sink other written) [
  | inl all ↦ (all.is_status, all.all.is_settled)
  | inr part ↦ absurd (whole part.is_five)
]

pub settled_err : (bytes : List ℕ) (status result : ℕ) (out err : Taking) → (status ≡ 0 → ⊥) → IsWritten bytes status result err out → result ≢ 5
    → IsSettled result out.1 err.1
settled_err bytes status result out err some written whole =
    let all = settled_all bytes status result err out written whole in inr ((λ zero. some (sym all.0 ∙ zero)), all.1)

-- the lines are said, or that there was no memory for them
pub lines_or_wanting : {T E : Type 0} (r : Result T E) (bytes : T → List ℕ) (line : List ℕ) (Said : List ℕ → Type 0) (Wanting : Type 0) → IfOk r (λ text. bytes text ≡ line)
    → MatchResult r (λ text. Said (bytes text)) (λ _. Wanting) → Said line ⊎ Wanting
lines_or_wanting {T} {E} (Ok text) bytes line Said Wanting is said = inl (subst Said is said)
lines_or_wanting {T} {E} (Err error) bytes line Said Wanting is said = inr said
