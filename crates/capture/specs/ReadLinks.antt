-- What a reader of links holds.
use Rattle.std.specs.Prelude.{map}
use Rattle.std.specs.Option.{option_map}
use Rattle.capture.specs.declared.readers.linking.LinkNews.{LinkNews as Read}
use Rattle.capture.specs.declared.readers.linking.LinkNews.TheVariants as read
use Rattle.capture.specs.declared.readers.linking.Linking.{Linking as Holding}
use Rattle.capture.specs.Lent.{plain_link}
use Rattle.capture.specs.Links.{LinkNews, Asked, Answered, LinkEnded, NoNews, Linking}

abbrev pub plain_news : Read → LinkNews
plain_news read.Asked = Asked
plain_news (read.Answered status handle) = Answered status handle
plain_news (read.Ended handle) = LinkEnded handle
plain_news read.None = NoNews

abbrev pub plain_linking : Holding → Linking
plain_linking holding = record { asked = holding.asked; past = map plain_link holding.past.items; up = option_map plain_link holding.up }
