-- The events of a capture, by the layer that they are for.
use Rattle.capture_record.specs.declared.event.Event.{Event}
use Rattle.capture_record.specs.declared.event.Event.TheVariants as events
use Rattle.dna_station.specs.declared.state.StationEvent.{StationEvent}
use Rattle.dna_station.specs.declared.state.StationEvent.TheVariants.{Start, Halt}
use Rattle.dna_links.specs.User.{LinkEventValue, Open, Accept, Reject, In, Up, Close, Abort, Boot}

abbrev pub event_of_station : StationEvent → Event
event_of_station Start = events.Start
event_of_station Halt = events.Halt

abbrev pub event_of_links : LinkEventValue → Event
event_of_links (Open link) = events.Open link
event_of_links (Accept partner link) = events.Accept partner link
event_of_links (Reject partner link) = events.Reject partner link
event_of_links (In link message) = events.In link message
event_of_links (Up link message) = events.Up link message
event_of_links (Close link) = events.Close link
event_of_links (Abort link) = events.Abort link
event_of_links Boot = events.Boot

-- a boot is of all links, and of the station too
abbrev pub IsOfOneLink : LinkEventValue → Type 0
IsOfOneLink Boot = ⊥
IsOfOneLink event = Unit {0}

-- what is carried and never judged
abbrev pub IsCarried : Event → Type 0
IsCarried (events.Interrupt link message) = Unit {0}
IsCarried (events.Interrupted link message) = Unit {0}
IsCarried event = ⊥
