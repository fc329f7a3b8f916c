-- Whatever records a node with queues makes by hidden steps the machine makes too.
use Rattle.dna_queues.proofs.Prelude.{◌≡◌, ℕ, ◌⊎◌, inl, inr, List, [], ◌∷◌, Ok, refl, sym, subst, Boot, LinkRecord, OfUser, AreAnswered, AreNear}
use Rattle.dna_queues.proofs.Prelude.{IsNear, IsNoAbort, NoneGivesUp, next_links, MadeByMachine, Node, HiddenStep, Acts, Composes, Acknowledges}
use Rattle.dna_queues.proofs.Prelude.{new_node, MakesStep, UserDoes, Boots, SendsComposed, SendsConfirm, SendsNothing, KeepsForLink, KeepsAtOnce}
use Rattle.dna_queues.proofs.Prelude.{PassesBy, MadeByHidden, NoMore, Hides, Makes}
use Rattle.dna_links.specs.TrueLinks as machine
use Rattle.dna_queues.proofs.Beside.{Beside, acts_beside, composes_beside, acknowledges_beside}
use Rattle.dna_queues.proofs.{SentOn.Follow, SentOn.sends_beside, Kept.keeps_beside, Begun.at_once_beside, Users.user_beside, Ends.confirms_beside}
use Rattle.dna_queues.proofs.{Ends.nothing_beside, Booted.booted_node, Booted.boots_on}

answered_now : (t : machine.Links) (later : List LinkRecord) → AreNear t later → AreAnswered t
answered_now t [] near = near
answered_now t (one ∷ later) near = near.0

hidden_beside : {n next : Node} (t : machine.Links) → Beside n t → AreAnswered t → HiddenStep n next → Beside next t
hidden_beside {n} t b answered (Acts unit left links takes does) = acts_beside n t b answered unit left links takes does
hidden_beside {n} t b answered (Composes unit made may small does truth) = composes_beside n t b answered unit made may small does truth
hidden_beside {n} t b answered (Acknowledges unit dst number link is goes there passed of_link) =
    acknowledges_beside n t b answered unit dst number link is goes there passed of_link

-- the record is a boot
record HasBooted (n next : Node) (one : LinkRecord) : Type 0 where
  pub is : OfUser Boot ≡ one
  pub to : booted_node n ≡ next

record_beside : {n next : Node} {one : LinkRecord} (t : machine.Links) → Beside n t → AreAnswered t → IsNear t one → IsNoAbort one →
    MakesStep n one next → Follow next t one ⊎ HasBooted n next one
record_beside {n} t b answered near keeps (UserDoes event links may does) = inl (user_beside n t b answered event links may keeps does)
record_beside {n} t b answered near keeps Boots = inr (record { is = refl; to = refl })
record_beside {n} t b answered near keeps (SendsComposed unit left takes) = inl (sends_beside n t b answered unit left takes)
record_beside {n} t b answered near keeps (SendsConfirm packet dst src reason made is does free quiet) =
    inl (confirms_beside n t b answered packet dst src reason made is does free quiet)
record_beside {n} t b answered near keeps (SendsNothing packet rest made is does) = inl (nothing_beside n t b answered packet rest made is does)
record_beside {n} t b answered near keeps (KeepsForLink unit address all left is comes does) =
    inl (keeps_beside n t b answered unit address all left is comes does near)
record_beside {n} t b answered near keeps (KeepsAtOnce unit all left new is comes does grown) =
    inl (at_once_beside n t b answered unit all left new is comes does grown)
record_beside {n} t b answered near keeps PassesBy = inl (record { left = t; is = refl; beside = λ near. b })

complete_from : {n : Node} {later : List LinkRecord} (t : machine.Links) → Beside n t → AreNear t later → NoneGivesUp later →
    MadeByHidden n later → MadeByMachine t later
complete_from t b near keep (NoMore n) = tt
complete_from t b near keep (Hides n next later step made) =
    complete_from t (hidden_beside t b (answered_now t later near) step) near keep made
complete_from t b near keep (Makes n next one later step made) =
    go (record_beside t b near.0 near.1 keep.0 step) (λ u c near_left. complete_from u c near_left keep.1 made)
  where
    go : Follow next t one ⊎ HasBooted n next one → ((u : machine.Links) → Beside next u → AreNear u later → MadeByMachine u later) →
        MadeByMachine t (one ∷ later)
    go (inl f) rest =
        let near_left = near.2 f.left f.is in
        (f.left, f.is, rest f.left (f.beside (answered_now f.left later near_left)) near_left)
    go (inr h) rest =
        subst (λ (o : LinkRecord). MadeByMachine t (o ∷ later)) h.is
        (boots_on n t b near.0 later
        (subst (λ (o : LinkRecord). (left : machine.Links) → next_links t o ≡ Ok left → AreNear left later) (sym h.is) near.2)
        (λ u c near_left. rest u (subst (λ (x : Node). Beside x u) h.to c) near_left))

pub new_beside : (node peer : ℕ) → Beside (new_node node peer) (machine.new_links node peer)
new_beside node peer = record {
  node = refl;
  peer = refl;
  size = refl;
  unique = λ i j l k at_i at_j own own_l own_k. absurd cc;
  for_links = tt;
  of_links = tt;
  all = λ i h l at_h at_l. absurd cc;
}

pub complete : (node peer : ℕ) (made : List LinkRecord) → AreNear (machine.new_links node peer) made → NoneGivesUp made →
    MadeByHidden (new_node node peer) made → MadeByMachine (machine.new_links node peer) made
complete node peer made near keep hidden = complete_from (machine.new_links node peer) (new_beside node peer) near keep hidden
