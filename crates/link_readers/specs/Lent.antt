-- What readers hold, apart from where its octets lie in memory.
use Rattle.std.specs.Prelude.{map, reverse, option_map}
use Rattle.l2cap_signal.specs.Reading.{answer}
use Rattle.link_readers.specs.declared.Saying.{Saying as LentSaying}
use Rattle.link_readers.specs.declared.Saying.TheVariants as said
use Rattle.link_readers.specs.declared.sensing.Question.{Question as LentQuestion}
use Rattle.link_readers.specs.declared.sensing.Question.TheVariants as question
use Rattle.link_readers.specs.declared.sensing.Reply.{Reply as LentReply}
use Rattle.link_readers.specs.declared.sensing.Reply.TheVariants as reply
use Rattle.link_readers.specs.declared.sensing.Sense.{Sense as LentSense}
use Rattle.link_readers.specs.declared.sensing.Sense.TheVariants as sense
use Rattle.link_readers.specs.declared.meaning.Terms.{Terms as LentTerms}
use Rattle.link_readers.specs.declared.meaning.Query.{Query as LentQuery}
use Rattle.link_readers.specs.declared.meaning.Part.{Part as LentPart}
use Rattle.link_readers.specs.declared.meaning.Meaning.{Meaning as LentMeaning}
use Rattle.link_readers.specs.declared.meaning.Meaning.TheVariants as meaning
use Rattle.link_readers.specs.declared.meaning.Requests.{Requests as LentRequests}
use Rattle.link_readers.specs.declared.entries.Setup.{Setup as LentSetup}
use Rattle.link_readers.specs.declared.entries.Entry.{Entry as LentEntry}
use Rattle.link_talk.specs.Sayings.{Saying, Command, Carried}
use Rattle.link_talk.specs.Senses as senses
use Rattle.link_talk.specs.Senses.{Question, Reply, Sense}
use Rattle.link_talk.specs.Requests.{Terms, Query, Requests}
use Rattle.link_talk.specs.Meanings as meanings
use Rattle.link_talk.specs.Meanings.{Part, Meaning}
use Rattle.link_talk.specs.Setups.{Setup}
use Rattle.link_talk.specs.Channels.{Entry}

abbrev pub plain_saying : LentSaying → Saying
plain_saying (said.Command flow signal) = Command flow (answer signal)
plain_saying (said.Carried flow pdu) = Carried flow pdu.now

abbrev pub plain_question : LentQuestion → Question
plain_question (question.ForChannel psm source) = senses.ForChannel psm source
plain_question (question.ForOptions endpoint options) = senses.ForOptions endpoint options.now
plain_question (question.Unread code) = senses.Unread code

abbrev pub plain_reply : LentReply → Reply
plain_reply (reply.OnChannel destination source answer) = senses.OnChannel destination source answer
plain_reply (reply.OnOptions endpoint flags answer options) = senses.OnOptions endpoint flags answer options.now

abbrev pub plain_sense : LentSense → Sense
plain_sense (sense.Asks flow identifier what) = senses.Asks flow identifier (plain_question what)
plain_sense (sense.Opens flow identifier what) = senses.Opens flow identifier (plain_reply what)
plain_sense (sense.Ends word own peer) = senses.Ends word own peer
plain_sense sense.Quiet = senses.Quiet

abbrev pub plain_terms : LentTerms → Terms
plain_terms terms = record { own = terms.own; options = terms.options.items }

abbrev pub plain_query : LentQuery → Query
plain_query query = record { identifier = query.identifier; terms = option_map plain_terms query.terms }

abbrev pub plain_part : LentPart → Part
plain_part part = record { own = part.own; peer = part.peer; accepted = part.accepted; more = part.more; options = part.options.now }

abbrev pub plain_meaning : LentMeaning → Meaning
plain_meaning (meaning.Makes channel) = meanings.Makes channel
plain_meaning (meaning.Answers part) = meanings.Answers (plain_part part)
plain_meaning (meaning.Wishes identifier peer options) = meanings.Wishes identifier peer options.now
plain_meaning (meaning.Settles identifier own) = meanings.Settles identifier own
plain_meaning (meaning.Parts word own peer) = meanings.Parts word own peer
plain_meaning meaning.Nothing = meanings.Nothing

-- readers keep the latest last
abbrev pub plain_requests : LentRequests → Requests
plain_requests held = record { calls = reverse held.calls.items; queries = reverse (map plain_query held.queries.items); failures = reverse held.failures.items }

abbrev pub plain_setup : LentSetup → Setup
plain_setup setup = record { asked = setup.asked; parts = setup.parts.items; accepted = setup.accepted }

abbrev pub plain_entry : LentEntry → Entry
plain_entry entry = record { channel = entry.channel; life = entry.life; setup = plain_setup entry.setup }
