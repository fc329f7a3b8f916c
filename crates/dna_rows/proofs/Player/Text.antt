-- Worked rows of the player: the line of each kind of step, and the head, as they stand in the text of a script.
use Rattle.dna_rows.proofs.Prelude.{◌≡◌, ℕ, List, [], ◌++◌, Some, refl, sym, arith, codes, decimal, bytes_text, address_text, number_at}
use Rattle.dna_rows.proofs.Prelude.{positive_at, address_at, number_takes, address_takes, Timer, Send, Deliver, Refuse, Drop, Lose, Damage, Noise}
use Rattle.dna_rows.proofs.Prelude.{Open, Accept, Reject, Close, Abort, Retry, list_head, line_text, script_form}
use Rattle.dna_play.specs.Script.{Start, Halt, Boot, In}
use Rattle.dna_rows.proofs.Scripts.{a, b}

-- a number as it is spelled
numeral : (text : List ℕ) (n : ℕ) → number_at 99999 text ≡ Some n → decimal n ≡ text
numeral text n e = sym (number_takes 99999 text n (omega arith) e).0

node : (text : List ℕ) (address : ℕ) → address_at text ≡ Some address → address_text address ≡ text
node text address e = sym (address_takes text address e).0

record Rows : Type 0 where
  start_line : line_text (a Start) ≡ codes "a start"
  halt_line : line_text (b Halt) ≡ codes "b halt"
  boot_line : line_text (a Boot) ≡ codes "a boot"
  timer_line : line_text (a Timer) ≡ codes "a timer"
  send_line : line_text (b Send) ≡ codes "b send"
  deliver_line : line_text (a Deliver) ≡ codes "a deliver"
  refuse_line : line_text (b Refuse) ≡ codes "b refuse"
  drop_line : line_text (b Drop) ≡ codes "b drop"
  lose_line : line_text (a Lose) ≡ codes "a lose"
  noise_line : (bytes : List ℕ) → line_text (b (Noise bytes)) ≡ codes "b noise " ++ bytes_text bytes
  no_noise_line : line_text (a (Noise [])) ≡ codes "a noise -"
  open_line : line_text (b Open) ≡ codes "b open"
  damage_line : line_text (b (Damage 0 132)) ≡ codes "b damage 0 132"
  accept_line : line_text (a (Accept 65535)) ≡ codes "a accept 65535"
  reject_line : line_text (b (Reject 10)) ≡ codes "b reject 10"
  close_line : line_text (a (Close 1)) ≡ codes "a close 1"
  abort_line : line_text (b (Abort 10)) ≡ codes "b abort 10"
  retry_line : line_text (b (Retry 2)) ≡ codes "b retry 2"
  -- BYTES stand as in a capture
  in_line : (message : List ℕ) → line_text (a (In 3 message)) ≡ codes "a in 3 " ++ bytes_text message
  in_line_of_nothing : line_text (a (In 3 [])) ≡ codes "a in 3 -"
  head_line : list_head script_form.first_words 0x0401 0xfbff ≡ codes "ddplay 1 1.1 62.1023"

computed : Rows
unfolding address_at positive_at number_at
computed = search (
  numeral (codes "0") 0 refl,
  numeral (codes "132") 132 refl,
  numeral (codes "65535") 65535 refl,
  numeral (codes "10") 10 refl,
  numeral (codes "1") 1 refl,
  numeral (codes "2") 2 refl,
  numeral (codes "3") 3 refl,
  node (codes "62.1023") 0xfbff refl,
)
