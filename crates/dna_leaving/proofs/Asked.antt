-- A row that names judged addresses alone comes, of what is left, to what is left of what it came to.
use Rattle.dna_leaving.proofs.Prelude.{◌≡◌, ℕ, Bool, true, false, ◌&&◌, Option, Some, None, is_some, ok_or, List, [], ◌∷◌, fold, Result, Ok, Err}
use Rattle.dna_leaving.proofs.Prelude.{refl, sym, ap, ap₂, ◌∙◌, option_map, subst, eqb-true, eqb-false, slice_get, ◌==◌, AckWord, SegmentValue}
use Rattle.dna_leaving.proofs.Prelude.{LinkRefusal, Phase, Port, LinkTest, Queues, Without, With, SegmentBook, LinkOf, LinksOf, LinkTruth, check}
use Rattle.dna_leaving.proofs.Prelude.{with_seen, with_segments, in_use, with_in_use, may_send, port_of_waiting, Effect, Ask, Finds, FindsEither}
use Rattle.dna_leaving.proofs.Prelude.{FindsNone, FindsInUse, KnowsInUse, InPhase, InTurn, OrElse, ForThisLink, OfThisPair, Delivers, SendsSegment}
use Rattle.dna_leaving.proofs.Prelude.{SendsAcks, Row, Asks, are_same, on_ok, blank, does, kept, otherwise, waits, sends_segment, sends_acks, asked}
use Rattle.dna_leaving.proofs.Prelude.{Marks, rank, LeftOut, Judged, link_left, links_left, truth_left, left_of_result, IsOfJudged, AreFit}
use Rattle.dna_leaving.proofs.Prelude.{NamesJudged, refused_in}
use Rattle.dna_leaving.proofs.Judged.{rank_one}
use Rattle.dna_leaving.proofs.LookUps.{Tests, IsPort, its_port, port_is, seen_left}
use Rattle.dna_leaving.proofs.Effects.{AllFit, kept_fit, all_left}

-- ---- what is asked names judged addresses, or such as are left out

module _ {K : Type 0} (out : LeftOut) (judged : Judged) (b : Bool) (truth : LinkTruth K) where
  abbrev pub AskFits : Ask → Type 0
  AskFits (Finds test refusal) = Tests out b test
  AskFits (FindsEither first second refusal) = Tests out b first × Tests out b second
  AskFits (FindsNone test refusal) = Tests out b test
  AskFits (FindsInUse test refusal) = Tests out b test
  AskFits (KnowsInUse test refusal) = Tests out b test
  AskFits (ForThisLink refusal) = b ≡ true → NamesJudged judged truth.tag
  AskFits (OfThisPair refusal) = b ≡ true → NamesJudged judged truth.tag
  AskFits ask = Unit {0}

  abbrev pub AsksFit : List Ask → Type 0
  AsksFit [] = Unit {0}
  AsksFit (OrElse so others ∷ asks) = AllFit out judged.there b truth.tag.link others × (so ≡ true → AsksFit asks)
  AsksFit (ask ∷ asks) = AskFits ask × AsksFit asks

  abbrev pub RowFits : Row → Type 0
  RowFits (Asks asks effects) = AsksFit asks × AllFit out judged.there b truth.tag.link effects

-- ---- numbers

same_number : (marks : Marks) (n k : ℕ) → marks n ≡ true → marks k ≡ true → (rank marks n == rank marks k) ≡ (n == k)
same_number marks n k of_n of_k = go (rank marks n == rank marks k) (n == k) refl refl
  where
    go : (b c : Bool) → (rank marks n == rank marks k) ≡ b → (n == k) ≡ c → b ≡ c
    go true true e f = refl
    go false false e f = refl
    go true false e f = absurd (eqb-false n k f (rank_one marks n k of_n of_k (eqb-true (rank marks n) (rank marks k) e)))
    go false true e f = absurd (eqb-false (rank marks n) (rank marks k) e (ap (rank marks) (eqb-true n k f)))

same_left : (marks : Marks) (one other : Option ℕ) → IsOfJudged marks one → IsOfJudged marks other →
    are_same (option_map (rank marks) one) (option_map (rank marks) other) ≡ are_same one other
same_left marks None other of_one of_other = refl
same_left marks (Some n) None of_one of_other = refl
same_left marks (Some n) (Some k) of_one of_other = same_number marks k n of_other of_one

known_left : (marks : Marks) (number : Option ℕ) → is_some (option_map (rank marks) number) ≡ is_some number
known_left marks None = refl
known_left marks (Some n) = refl

-- ---- ports in use

module _ {D : Type 0} where
  pub in_use_is : IsPort {D = D} (in_use With)
  in_use_is = record { own = λ l. own l.queue.waits l; far = λ l. far l.queue.waits l }
    where
      own : (waits : Option Phase) (l : LinkOf D) → (port_of_waiting waits l.port).own ≡ l.port.own
      own None l = refl
      own (Some phase) l = refl

      far : (waits : Option Phase) (l : LinkOf D) → (port_of_waiting waits l.port).far ≡ l.port.far
      far None l = refl
      far (Some phase) l = refl

  in_use_left : (there : Marks) (q : Queues) (l : LinkOf D) → in_use q (link_left there l) ≡ in_use q l
  in_use_left there Without l = refl
  in_use_left there With l = refl

  may_send_left : (there : Marks) (q : Queues) (phase : Phase) (l : LinkOf D) → may_send q phase (link_left there l) ≡ may_send q phase l
  may_send_left there Without phase l = refl
  may_send_left there With phase l = refl

-- ---- what goes on

module _ {R R' : Type 0} (g : R → R') where
  abbrev left : Result R LinkRefusal → Result R' LinkRefusal
  left r = left_of_result g r

  pub check_left : (b : Bool) (refusal : LinkRefusal) (next : Result R LinkRefusal) (next' : Result R' LinkRefusal) → left next ≡ next' →
      left (check b refusal next) ≡ check b refusal next'
  check_left true refusal next next' same = same
  check_left false refusal next next' same = refl

  on_ok_left : {X : Type 0} (x : Result X LinkRefusal) (next : X → Result R LinkRefusal) (next' : X → Result R' LinkRefusal) →
      ((v : X) → left (next v) ≡ next' v) → left (on_ok x next) ≡ on_ok x next'
  on_ok_left (Ok v) next next' same = same v
  on_ok_left (Err refusal) next next' same = refl

module _ {D K R R' : Type 0} (queues : Queues) (book : SegmentBook D K) (rule : Bool → Bool) (truth : LinkTruth K) (out : LeftOut) (judged : Judged)
    (s : LinksOf D) (fit : AreFit out judged s) (answer : List Effect → Option ℕ → LinkOf D → K → R)
    (answer' : List Effect → Option ℕ → LinkOf D → K → R') (g : R → R') where
  abbrev truth' : LinkTruth K
  truth' = truth_left judged.there judged.here truth

  abbrev t : LinksOf D
  t = links_left judged s

  -- answers go along
  abbrev pub AnswersLeft : Type 0
  AnswersLeft = (effects : List Effect) (number : Option ℕ) (link : LinkOf D) (known : K) → AllFit out judged.there true truth.tag.link effects →
      IsOfJudged judged.here number →
      g (answer effects number link known) ≡ answer' effects (option_map (rank judged.here) number) (link_left judged.there link) known

  module _ (answers : AnswersLeft) (effects : List Effect) where
    abbrev here : List Ask → Option ℕ → LinkOf D → K → Result R LinkRefusal
    here asks number link known = asked queues book rule truth s answer effects asks number link known

    abbrev there : List Ask → Option ℕ → LinkOf D → K → Result R' LinkRefusal
    there asks number link known = asked queues book rule truth' t answer' effects asks number link known

    otherwise_left : (refusal : Option LinkRefusal) →
        left_of_result g (otherwise queues book rule truth s answer effects refusal) ≡ otherwise queues book rule truth' t answer' effects refusal
    otherwise_left None = ap Ok (answers [] None (blank queues book) truth.known tt tt)
    otherwise_left (Some refusal) = refl

    -- a link that is found goes on as what is left of it
    abbrev GoesOn : (ℕ → LinkOf D → Result R LinkRefusal) → (ℕ → LinkOf D → Result R' LinkRefusal) → Type 0
    GoesOn next next' = (n : ℕ) (l : LinkOf D) → slice_get s.links n ≡ Some l → judged.here n ≡ true →
        left_of_result g (next n l) ≡ next' (rank judged.here n) (link_left judged.there l)

    module _ (test : LinkTest) (names : Tests out true test) (refusal : LinkRefusal) where
      in_use_found : (q : Queues) (next : ℕ → LinkOf D → Result R LinkRefusal) (next' : ℕ → LinkOf D → Result R' LinkRefusal) → GoesOn next next' →
          left_of_result g (with_in_use q test s (Err refusal) next) ≡ with_in_use q test t (Err refusal) next'
      in_use_found Without next next' along =
          seen_left out judged s fit its_port port_is test refl (left_of_result g) (Err refusal) (Err refusal) next next' names refl along
      in_use_found With next next' along =
          seen_left out judged s fit its_port port_is test refl (left_of_result g) (with_seen (in_use With) test s (Err refusal) next)
          (with_seen (in_use With) test t (Err refusal) next') next next' names
          (seen_left out judged s fit (in_use With) in_use_is test refl (left_of_result g) (Err refusal) (Err refusal) next next' names refl along)
          along

      waits_left : (q : Queues) (next : Result R LinkRefusal) (next' : Result R' LinkRefusal) → left_of_result g next ≡ next' →
          left_of_result g (waits queues book rule truth s answer effects q test refusal next)
          ≡ waits queues book rule truth' t answer' effects q test refusal next'
      waits_left Without next next' same = refl
      waits_left With next next' same =
          seen_left out judged s fit (in_use With) in_use_is test refl (left_of_result g) (Err refusal) (Err refusal) (λ n l. next) (λ n l. next')
          names refl (λ n l there is. same)

    module _ (link : LinkOf D) (next : LinkOf D → K → Result R LinkRefusal) (next' : LinkOf D → K → Result R' LinkRefusal)
        (same : (l : LinkOf D) (known : K) → l.partner ≡ link.partner →
        left_of_result g (next l known) ≡ next' (link_left judged.there l) known) where
      segment_left : (q : Queues) (segment : SegmentValue) →
          left_of_result g (sends_segment queues book rule truth s answer effects q segment link next)
          ≡ sends_segment queues book rule truth' t answer' effects q segment (link_left judged.there link) next'
      segment_left Without segment =
          on_ok_left g (book.sends_segment link.segsize segment link.segments) _ _ (λ sent. same (with_segments sent.segments link) sent.known refl)
      segment_left With segment =
          on_ok_left g (book.sends_late link.queue.gap link.segsize segment link.segments) _ _ (λ sent. same _ sent.sent.known refl)

      acks_left : (q : Queues) (acks : List AckWord) →
          left_of_result g (sends_acks queues book rule truth s answer effects q acks link next)
          ≡ sends_acks queues book rule truth' t answer' effects q acks (link_left judged.there link) next'
      acks_left Without acks =
          on_ok_left g (book.sends_acks acks link.segments) _ _ (λ sent. same (with_segments sent.segments link) sent.known refl)
      acks_left With acks = on_ok_left g (book.sends_acks acks link.segments) _ _ (λ sent. same _ sent.known refl)

    pub asked_left : (asks : List Ask) (number : Option ℕ) (link : LinkOf D) (known : K) → AsksFit out judged true truth asks →
        AllFit out judged.there true truth.tag.link effects → IsOfJudged judged.here number → IsOfJudged judged.there link.partner →
        left_of_result g (here asks number link known) ≡ there asks (option_map (rank judged.here) number) (link_left judged.there link) known
    asked_left [] number link known fits all is partner =
        ap Ok (answers effects number (fold (does queues book truth) link effects) known all is
        ∙ ap (λ (l : LinkOf D). answer' effects (option_map (rank judged.here) number) l known)
        (all_left queues book judged.there judged.here truth effects link))
    asked_left (Finds test refusal ∷ asks) number link known fits all is partner =
        seen_left out judged s fit its_port port_is test refl (left_of_result g) (otherwise queues book rule truth s answer effects refusal)
        (otherwise queues book rule truth' t answer' effects refusal) (λ n l. here asks (Some n) l (book.sends_other l.segments))
        (λ n l. there asks (Some n) l (book.sends_other l.segments)) fits.0 (otherwise_left refusal)
        (λ n l at of_n. asked_left asks (Some n) l (book.sends_other l.segments) fits.1 all of_n ((fit n l at).partner of_n))
    asked_left (FindsEither first second refusal ∷ asks) number link known fits all is partner =
        seen_left out judged s fit its_port port_is first refl (left_of_result g) _ _ (λ n l. here asks (Some n) l (book.sends_other l.segments))
        (λ n l. there asks (Some n) l (book.sends_other l.segments)) fits.0.0
        (seen_left out judged s fit its_port port_is second refl (left_of_result g) (otherwise queues book rule truth s answer effects refusal)
        (otherwise queues book rule truth' t answer' effects refusal) (λ n l. here asks (Some n) l (book.sends_other l.segments))
        (λ n l. there asks (Some n) l (book.sends_other l.segments)) fits.0.1 (otherwise_left refusal)
        (λ n l at of_n. asked_left asks (Some n) l (book.sends_other l.segments) fits.1 all of_n ((fit n l at).partner of_n)))
        (λ n l at of_n. asked_left asks (Some n) l (book.sends_other l.segments) fits.1 all of_n ((fit n l at).partner of_n))
    asked_left (FindsNone test refusal ∷ asks) number link known fits all is partner =
        seen_left out judged s fit its_port port_is test refl (left_of_result g) (here asks number link known)
        (there asks (option_map (rank judged.here) number) (link_left judged.there link) known)
        (λ n l. otherwise queues book rule truth s answer effects refusal) (λ n l. otherwise queues book rule truth' t answer' effects refusal)
        fits.0 (asked_left asks number link known fits.1 all is partner) (λ n l at of_n. otherwise_left refusal)
    asked_left (FindsInUse test refusal ∷ asks) number link known fits all is partner =
        in_use_found test fits.0 refusal queues (λ n l. here asks (Some n) l (book.sends_other l.segments))
        (λ n l. there asks (Some n) l (book.sends_other l.segments))
        (λ n l at of_n. asked_left asks (Some n) l (book.sends_other l.segments) fits.1 all of_n ((fit n l at).partner of_n))
    asked_left (KnowsInUse test refusal ∷ asks) number link known fits all is partner =
        seen_left out judged s fit its_port port_is test refl (left_of_result g) _ _ (λ n l. here asks (Some n) l (book.sends_other l.segments))
        (λ n l. there asks (Some n) l (book.sends_other l.segments)) fits.0
        (waits_left test fits.0 refusal queues (here asks number link known)
        (there asks (option_map (rank judged.here) number) (link_left judged.there link) known)
        (asked_left asks number link known fits.1 all is partner))
        (λ n l at of_n. asked_left asks (Some n) l (book.sends_other l.segments) fits.1 all of_n ((fit n l at).partner of_n))
    asked_left (InPhase phases refusal ∷ asks) number link known fits all is partner =
        check_left g (phases (in_use queues link).phase) _ (here asks number link known) _
        (asked_left asks number link known fits.1 all is partner)
        ∙ ap (λ (p : Port). check (phases p.phase) (refused_in p.phase refusal)
        (there asks (option_map (rank judged.here) number) (link_left judged.there link) known))
        (sym (in_use_left judged.there queues link))
    asked_left (InTurn phase refusal ∷ asks) number link known fits all is partner =
        check_left g (may_send queues phase link) refusal (here asks number link known) _ (asked_left asks number link known fits.1 all is partner)
        ∙ ap (λ (b : Bool). check b refusal (there asks (option_map (rank judged.here) number) (link_left judged.there link) known))
        (sym (may_send_left judged.there queues phase link))
    asked_left (OrElse true others ∷ asks) number link known fits all is partner = asked_left asks number link known (fits.1 refl) all is partner
    asked_left (OrElse false others ∷ asks) number link known fits all is partner =
        ap Ok (answers (kept queues others) None (blank queues book) truth.known
        (kept_fit out judged.there true queues truth.tag.link others fits.0) tt)
    asked_left (ForThisLink refusal ∷ asks) number link known fits all is partner =
        check_left g (rule (is_some truth.tag.link && are_same number truth.tag.partner)) refusal (here asks number link known) _
        (asked_left asks number link known fits.1 all is partner)
        ∙ ap₂ (λ (b c : Bool). check (rule (b && c)) refusal (there asks (option_map (rank judged.here) number) (link_left judged.there link) known))
        (sym (known_left judged.there truth.tag.link)) (sym (same_left judged.here number truth.tag.partner is (fits.0 refl).partner))
    asked_left (OfThisPair refusal ∷ asks) number link known fits all is partner =
        check_left g (rule (are_same link.partner truth.tag.link && are_same number truth.tag.partner)) refusal (here asks number link known) _
        (asked_left asks number link known fits.1 all is partner)
        ∙ ap₂ (λ (b c : Bool). check (rule (b && c)) refusal (there asks (option_map (rank judged.here) number) (link_left judged.there link) known))
        (sym (same_left judged.there link.partner truth.tag.link partner (fits.0 refl).link))
        (sym (same_left judged.here number truth.tag.partner is (fits.0 refl).partner))
    asked_left (Delivers message refusal ∷ asks) number link known fits all is partner =
        on_ok_left g (ok_or (book.delivers message link.segments) refusal) _ _
        (λ d. asked_left asks number (with_segments d link) known fits.1 all is partner)
    asked_left (SendsSegment segment ∷ asks) number link known fits all is partner =
        segment_left link (here asks number) (there asks (option_map (rank judged.here) number))
        (λ l k same. asked_left asks number l k fits.1 all is (subst (IsOfJudged judged.there) (sym same) partner)) queues segment
    asked_left (SendsAcks acks ∷ asks) number link known fits all is partner =
        acks_left link (here asks number) (there asks (option_map (rank judged.here) number))
        (λ l k same. asked_left asks number l k fits.1 all is (subst (IsOfJudged judged.there) (sym same) partner)) queues acks

    pub row_left : (asks : List Ask) → AsksFit out judged true truth asks → AllFit out judged.there true truth.tag.link effects →
        left_of_result g (here asks None (blank queues book) truth.known) ≡ there asks None (blank queues book) truth.known
    row_left asks fits all = asked_left asks None (blank queues book) truth.known fits all tt tt
