use Rattle.capture_record.specs.declared.limit.TheConstants.{MAX_MESSAGE}
use Rattle.capture.specs.Reading.{message_at}
use Rattle.capture.proofs.event_words.message_of.Goals as goal

pub returns : goal.returns
unfolding message_at
returns c = c.text_of_link.ensures MAX_MESSAGE
