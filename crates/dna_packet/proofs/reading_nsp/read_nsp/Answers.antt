use Rattle.std.proofs.Common.{◌≡◌, ℕ, ◌-◌, ◌≤◌, List, [], ◌∷◌, length, take, drop, get_or, ap, subst, ◌∙◌, arith}
use Rattle.std.proofs.lemmas.List.{take_all}
use Rattle.dna_packet.specs.Fields.{Gives}
use Rattle.dna_packet.specs.Nsp.{view}
use Rattle.dna_packet.specs.ReadingNsp.{message_at, nsp_at}
use Rattle.dna_packet.proofs.NspTakes.{is_found}
use Rattle.dna_packet.proofs.NspAgain.{nsp_again}
use Rattle.dna_packet.proofs.reading_nsp.read_nsp.Goals as goal

-- the flag byte and what stands behind it
behind_flag : (bytes : List ℕ) → 1 ≤ length bytes → message_at (get_or bytes 0 0) (take (length bytes - 1) (drop 1 bytes)) ≡ nsp_at bytes
behind_flag [] some = absurd (omega arith)
behind_flag (flag ∷ rest) some = ap (message_at flag) (take_all (length (flag ∷ rest) - 1) rest (omega arith))

pub returns-in-len1-up-clause-found : goal.returns-in-len1-up-clause-found
returns-in-len1-up-clause-found c =
    let exact = subst (λ r. Gives view c.message.result r) (behind_flag c.args.bytes.now (omega arith)) c.message.ensures.read in
    is_found c.args.bytes.now c.message.result (λ i. omega (arith, c.type_inv.bytes i)) exact

pub returns-in-len1-up-clause-only : goal.returns-in-len1-up-clause-only
returns-in-len1-up-clause-only c =
    let exact = subst (λ r. Gives view c.message.result r) (behind_flag c.args.bytes.now (omega arith)) c.message.ensures.read in
    λ m fits e. subst (λ r. Gives view c.message.result r) (ap nsp_at e ∙ nsp_again m fits) exact
