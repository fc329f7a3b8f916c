-- What holds of each answer of a row holds of what the row comes to, where each link that it finds is judged, or left out, as the row names.
use Rattle.dna_leaving.proofs.Prelude.{◌≡◌, ℕ, Bool, true, false, ◌&&◌, Option, Some, None, is_some, ok_or, List, [], ◌∷◌, fold, Result, Ok, Err}
use Rattle.dna_leaving.proofs.Prelude.{refl, subst, slice_get, IfSome, AckWord, SegmentValue, LinkRefusal, LinkTest, Queues, Without, With}
use Rattle.dna_leaving.proofs.Prelude.{SegmentBook, LinkOf, LinksOf, LinkTruth, check, with_link, with_seen, with_segments, in_use, with_in_use}
use Rattle.dna_leaving.proofs.Prelude.{may_send, Effect, Ask, Finds, FindsEither, FindsNone, FindsInUse, KnowsInUse, InPhase, InTurn, OrElse}
use Rattle.dna_leaving.proofs.Prelude.{ForThisLink, OfThisPair, Delivers, SendsSegment, SendsAcks, are_same, on_ok, blank, does, kept, otherwise}
use Rattle.dna_leaving.proofs.Prelude.{waits, sends_segment, sends_acks, asked, LeftOut, Judged, LinkFits, AreFit}
use Rattle.dna_leaving.proofs.LookUps.{Tests, its_port, port_is, seen_holds}
use Rattle.dna_leaving.proofs.Effects.{AllFit, kept_fit, all_fit, as_before}
use Rattle.dna_leaving.proofs.Asked.{AsksFit, in_use_is}

-- of what is not refused
abbrev pub IfMade : {R : Type 0} → (R → Type 0) → Result R LinkRefusal → Type 0
IfMade P (Ok r) = P r
IfMade P (Err refusal) = Unit {0}

module _ {R : Type 0} (P : R → Type 0) where
  pub check_holds : (b : Bool) (refusal : LinkRefusal) (next : Result R LinkRefusal) → IfMade P next → IfMade P (check b refusal next)
  check_holds true refusal next held = held
  check_holds false refusal next held = tt

  on_ok_holds : {X : Type 0} (x : Result X LinkRefusal) (next : X → Result R LinkRefusal) → ((v : X) → IfMade P (next v)) → IfMade P (on_ok x next)
  on_ok_holds (Ok v) next held = held v
  on_ok_holds (Err refusal) next held = tt

module _ {D K R : Type 0} (queues : Queues) (book : SegmentBook D K) (rule : Bool → Bool) (truth : LinkTruth K) (out : LeftOut) (judged : Judged)
    (s : LinksOf D) (fit : AreFit out judged s) (answer : List Effect → Option ℕ → LinkOf D → K → R) (b : Bool) (P : R → Type 0) where
  abbrev pub IsNumber : Option ℕ → Type 0
  IsNumber number = IfSome number (λ n. judged.here n ≡ b)

  abbrev pub AnswersHold : Type 0
  AnswersHold = (effects : List Effect) (number : Option ℕ) (link : LinkOf D) (known : K) → AllFit out judged.there b truth.tag.link effects →
      IsNumber number → LinkFits out judged.there b link → P (answer effects number link known)

  pub blank_fits : LinkFits out judged.there b (blank queues book)
  blank_fits = record { own = tt; far = tt; partner = λ is. tt }

  module _ (answers : AnswersHold) (effects : List Effect) where
    abbrev comes_to : List Ask → Option ℕ → LinkOf D → K → Result R LinkRefusal
    comes_to asks number link known = asked queues book rule truth s answer effects asks number link known

    otherwise_holds : (refusal : Option LinkRefusal) → IfMade P (otherwise queues book rule truth s answer effects refusal)
    otherwise_holds None = answers [] None (blank queues book) truth.known tt tt blank_fits
    otherwise_holds (Some refusal) = tt

    -- of each link that may be found
    abbrev Holds : (ℕ → LinkOf D → Result R LinkRefusal) → Type 0
    Holds next = (n : ℕ) (l : LinkOf D) → slice_get s.links n ≡ Some l → judged.here n ≡ b → IfMade P (next n l)

    module _ (test : LinkTest) (names : Tests out b test) (refusal : LinkRefusal) where
      in_use_holds : (q : Queues) (next : ℕ → LinkOf D → Result R LinkRefusal) → Holds next → IfMade P (with_in_use q test s (Err refusal) next)
      in_use_holds Without next along = seen_holds out judged s fit its_port port_is test (IfMade P) b names (Err refusal) next tt along
      in_use_holds With next along =
          seen_holds out judged s fit its_port port_is test (IfMade P) b names (with_seen (in_use With) test s (Err refusal) next) next
          (seen_holds out judged s fit (in_use With) in_use_is test (IfMade P) b names (Err refusal) next tt along) along

      waits_holds : (q : Queues) (next : Result R LinkRefusal) → IfMade P next →
          IfMade P (waits queues book rule truth s answer effects q test refusal next)
      waits_holds Without next held = tt
      waits_holds With next held =
          seen_holds out judged s fit (in_use With) in_use_is test (IfMade P) b names (Err refusal) (λ n l. next) tt (λ n l there is. held)

    module _ (link : LinkOf D) (fits : LinkFits out judged.there b link) (next : LinkOf D → K → Result R LinkRefusal)
        (held : (l : LinkOf D) (known : K) → LinkFits out judged.there b l → IfMade P (next l known)) where
      with_fits : (l : LinkOf D) → l.port.own ≡ link.port.own → l.port.far ≡ link.port.far → l.partner ≡ link.partner →
          LinkFits out judged.there b l
      with_fits l own far partner = as_before out judged.there b link l (record { own = own; far = far; partner = partner }) fits

      segment_holds : (q : Queues) (segment : SegmentValue) →
          IfMade P (sends_segment queues book rule truth s answer effects q segment link next)
      segment_holds Without segment =
          on_ok_holds P (book.sends_segment link.segsize segment link.segments) _ (λ sent. held _ sent.known (with_fits _ refl refl refl))
      segment_holds With segment =
          on_ok_holds P (book.sends_late link.queue.gap link.segsize segment link.segments) _
          (λ sent. held _ sent.sent.known (with_fits _ refl refl refl))

      acks_hold : (q : Queues) (acks : List AckWord) → IfMade P (sends_acks queues book rule truth s answer effects q acks link next)
      acks_hold Without acks = on_ok_holds P (book.sends_acks acks link.segments) _ (λ sent. held _ sent.known (with_fits _ refl refl refl))
      acks_hold With acks = on_ok_holds P (book.sends_acks acks link.segments) _ (λ sent. held _ sent.known (with_fits _ refl refl refl))

    -- the link that is found fits
    there_fits : (n : ℕ) (l : LinkOf D) → slice_get s.links n ≡ Some l → judged.here n ≡ b → LinkFits out judged.there b l
    there_fits n l there is = subst (λ (c : Bool). LinkFits out judged.there c l) is (fit n l there)

    pub asked_holds : (asks : List Ask) (number : Option ℕ) (link : LinkOf D) (known : K) → AsksFit out judged b truth asks →
        AllFit out judged.there b truth.tag.link effects → IsNumber number → LinkFits out judged.there b link →
        IfMade P (comes_to asks number link known)
    asked_holds [] number link known names all is fits =
        answers effects number (fold (does queues book truth) link effects) known all is
        (all_fit out judged.there b queues book truth effects link all fits)
    asked_holds (Finds test refusal ∷ asks) number link known names all is fits =
        seen_holds out judged s fit its_port port_is test (IfMade P) b names.0 (otherwise queues book rule truth s answer effects refusal)
        (λ n l. comes_to asks (Some n) l (book.sends_other l.segments)) (otherwise_holds refusal)
        (λ n l at of_n. asked_holds asks (Some n) l (book.sends_other l.segments) names.1 all of_n (there_fits n l at of_n))
    asked_holds (FindsEither first second refusal ∷ asks) number link known names all is fits =
        seen_holds out judged s fit its_port port_is first (IfMade P) b names.0.0
        (with_link second s (otherwise queues book rule truth s answer effects refusal)
        (λ n l. comes_to asks (Some n) l (book.sends_other l.segments)))
        (λ n l. comes_to asks (Some n) l (book.sends_other l.segments))
        (seen_holds out judged s fit its_port port_is second (IfMade P) b names.0.1 (otherwise queues book rule truth s answer effects refusal)
        (λ n l. comes_to asks (Some n) l (book.sends_other l.segments)) (otherwise_holds refusal)
        (λ n l at of_n. asked_holds asks (Some n) l (book.sends_other l.segments) names.1 all of_n (there_fits n l at of_n)))
        (λ n l at of_n. asked_holds asks (Some n) l (book.sends_other l.segments) names.1 all of_n (there_fits n l at of_n))
    asked_holds (FindsNone test refusal ∷ asks) number link known names all is fits =
        seen_holds out judged s fit its_port port_is test (IfMade P) b names.0 (comes_to asks number link known)
        (λ n l. otherwise queues book rule truth s answer effects refusal) (asked_holds asks number link known names.1 all is fits)
        (λ n l at of_n. otherwise_holds refusal)
    asked_holds (FindsInUse test refusal ∷ asks) number link known names all is fits =
        in_use_holds test names.0 refusal queues (λ n l. comes_to asks (Some n) l (book.sends_other l.segments))
        (λ n l at of_n. asked_holds asks (Some n) l (book.sends_other l.segments) names.1 all of_n (there_fits n l at of_n))
    asked_holds (KnowsInUse test refusal ∷ asks) number link known names all is fits =
        seen_holds out judged s fit its_port port_is test (IfMade P) b names.0
        (waits queues book rule truth s answer effects queues test refusal (comes_to asks number link known))
        (λ n l. comes_to asks (Some n) l (book.sends_other l.segments))
        (waits_holds test names.0 refusal queues (comes_to asks number link known) (asked_holds asks number link known names.1 all is fits))
        (λ n l at of_n. asked_holds asks (Some n) l (book.sends_other l.segments) names.1 all of_n (there_fits n l at of_n))
    asked_holds (InPhase phases refusal ∷ asks) number link known names all is fits =
        check_holds P (phases (in_use queues link).phase) _ (comes_to asks number link known)
        (asked_holds asks number link known names.1 all is fits)
    asked_holds (InTurn phase refusal ∷ asks) number link known names all is fits =
        check_holds P (may_send queues phase link) refusal (comes_to asks number link known)
        (asked_holds asks number link known names.1 all is fits)
    asked_holds (OrElse true others ∷ asks) number link known names all is fits = asked_holds asks number link known (names.1 refl) all is fits
    asked_holds (OrElse false others ∷ asks) number link known names all is fits =
        answers (kept queues others) None (blank queues book) truth.known
        (kept_fit out judged.there b queues truth.tag.link others names.0) tt blank_fits
    asked_holds (ForThisLink refusal ∷ asks) number link known names all is fits =
        check_holds P (rule (is_some truth.tag.link && are_same number truth.tag.partner)) refusal (comes_to asks number link known)
        (asked_holds asks number link known names.1 all is fits)
    asked_holds (OfThisPair refusal ∷ asks) number link known names all is fits =
        check_holds P (rule (are_same link.partner truth.tag.link && are_same number truth.tag.partner)) refusal (comes_to asks number link known)
        (asked_holds asks number link known names.1 all is fits)
    asked_holds (Delivers message refusal ∷ asks) number link known names all is fits =
        on_ok_holds P (ok_or (book.delivers message link.segments) refusal) _
        (λ d. asked_holds asks number (with_segments d link) known names.1 all is
        (with_fits link fits (comes_to asks number) (λ l k f. asked_holds asks number l k names.1 all is f) (with_segments d link) refl refl refl))
    asked_holds (SendsSegment segment ∷ asks) number link known names all is fits =
        segment_holds link fits (comes_to asks number) (λ l k f. asked_holds asks number l k names.1 all is f) queues segment
    asked_holds (SendsAcks acks ∷ asks) number link known names all is fits =
        acks_hold link fits (comes_to asks number) (λ l k f. asked_holds asks number l k names.1 all is f) queues acks
