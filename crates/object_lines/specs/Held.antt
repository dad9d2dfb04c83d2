-- What a reader holds of the links of a host, as values.
use Rattle.std.specs.Prelude.{◌≡◌, List, [], ◌∷◌, ◌++◌, Option, Some, None}
use Rattle.std.specs.Option.{option_map}
use Rattle.acl_fragments.specs.Pieces.{Piece}
use Rattle.capture.specs.declared.flow.Flow.TheVariants.{Out, Into}
use Rattle.capture.specs.Links.{LinkNews, Asked, Answered, LinkEnded, NoNews}
use Rattle.capture.specs.Pdus.{pdu_limit}
use Rattle.link_readers.specs.talk_laws.specs.CapturePass.{HeldLink, HeldLinks}
use Rattle.object_lines.specs.declared.news.News.{News}
use Rattle.object_lines.specs.declared.news.News.TheVariants as news
use Rattle.object_lines.specs.declared.piece.Piece.{Piece as LentPiece}
use Rattle.object_lines.specs.declared.links.HeldLink.{HeldLink as LentLink}
use Rattle.object_lines.specs.declared.links.HeldLinks.{HeldLinks as LentLinks}
use Rattle.object_lines.specs.Passes.{Telling, plain_telling}

abbrev pub plain_news : News → LinkNews
plain_news news.Asked = Asked
plain_news (news.Answered status handle) = Answered status handle
plain_news (news.Ended handle) = LinkEnded handle
plain_news news.Nothing = NoNews

abbrev pub plain_piece : LentPiece → Piece
plain_piece piece = record { boundary = piece.boundary; octets = piece.octets.now }

abbrev pub plain_link : LentLink → HeldLink Telling
plain_link link = record { handle = link.handle; out_ = link.out.octets; into = link.into.octets; state = plain_telling link.pass }

-- it joins PDUs as long as those of a link
pub record JoinsPdus (link : LentLink) : Type 0 where
  pub out_ : link.out.limit ≡ pdu_limit Out
  pub into : link.into.limit ≡ pdu_limit Into

-- with what is held of the links that ended, of which it holds nothing
abbrev pub plain_links : List Telling → LentLinks → HeldLinks Telling
plain_links past links = record { asked = links.asked; past = past; up = option_map plain_link links.up }

-- and of one that ends
abbrev pub past_with : List Telling → Option LentLink → List Telling
past_with past None = past
past_with past (Some link) = past ++ plain_telling link.pass ∷ []
