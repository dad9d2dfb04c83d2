-- What a client is told, apart from where its octets lie in memory.
use Rattle.push_model.specs.Events as news
use Rattle.push_model.specs.Events.{News}
use Rattle.push_client.specs.declared.event.ProfileEvent.{ProfileEvent}
use Rattle.push_client.specs.declared.event.ProfileEvent.TheVariants.{LinkUp, LinkDown, LinkFailed, ChannelOpen, ChannelClosed, Sdu, Features, FeaturesLost, Timer}

-- a client asks whether the peer tells its features, and not for them
abbrev pub news_of : ProfileEvent → News
news_of LinkUp = news.LinkUp
news_of (LinkDown reason) = news.LinkDown reason
news_of (LinkFailed status) = news.LinkFailed status
news_of (ChannelOpen psm mtu) = news.ChannelOpen psm mtu
news_of (ChannelClosed psm cause) = news.ChannelClosed psm cause
news_of (Sdu psm octets) = news.Sdu psm octets.now
news_of (Features features) = news.FeaturesTold
news_of FeaturesLost = news.FeaturesLost
news_of Timer = news.Timer
