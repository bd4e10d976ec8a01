-- What a box says to a wish that it grants: its value of the wish's item.
use Rattle.std.specs.Prelude.{[], get_or}
use Rattle.wire.specs.Choice.{pick}
use Rattle.wire.specs.Number.{number}
use Rattle.wire.specs.Signed.{signed}
use Rattle.rates.specs.Rate.{rate_of}
use Rattle.items.specs.declared.Settings.{Settings}
use Rattle.items.specs.Settings.{channel_at}
use Rattle.items.specs.Items.{interface_number, version_table, idle, run}
use Rattle.wishes.specs.declared.Wish.{Wish}
use Rattle.wishes.specs.declared.Wish.TheVariants.{AskName, AskSerial, AskInterface, AskVersion, AskStatus, SetState, AskState}
use Rattle.wishes.specs.declared.Wish.TheVariants.{SetChannelSetup, AskChannelSetup, SetFrequency, AskFrequency, AskFrequencyRange}
use Rattle.wishes.specs.declared.Wish.TheVariants.{SetGain, AskGain, SetClock, AskClock}
use Rattle.wishes.specs.declared.Wish.TheVariants.{SetRate, AskRate, SetPacketSize, AskPacketSize}
use Rattle.wishes.specs.Wishes.{granted, refused_now}
use Rattle.replies.specs.declared.Reply.{Reply}
use Rattle.replies.specs.declared.Reply.TheVariants.{Nak, Name, Serial, Interface, Version, Status, State}
use Rattle.replies.specs.declared.Reply.TheVariants.{ChannelSetup, Frequency, FrequencyRange, Gain, Clock, Rate, PacketSize}

abbrev pub says_of : Wish → Settings → Reply
says_of AskName s = Name
says_of AskSerial s = Serial (number s.serial)
says_of AskInterface s = Interface interface_number
says_of (AskVersion id) s = Version id (number (get_or version_table id []))
says_of AskStatus s = Status s.running
says_of (SetState f) s = State (record { run = pick s.running run idle; mode = s.mode })
says_of AskState s = State (record { run = pick s.running run idle; mode = s.mode })
says_of (SetChannelSetup n) s = ChannelSetup s.setup
says_of AskChannelSetup s = ChannelSetup s.setup
says_of (SetFrequency channel hz) s = Frequency (channel_at channel s).frequency
says_of (AskFrequency channel) s = Frequency (channel_at channel s).frequency
says_of (AskFrequencyRange channel) s = FrequencyRange
says_of (SetGain channel g) s = Gain (signed 8 (channel_at channel s).gain)
says_of (AskGain channel) s = Gain (signed 8 (channel_at channel s).gain)
says_of (SetClock channel hz) s = Clock s.clock
says_of (AskClock channel) s = Clock s.clock
says_of (SetRate channel hz) s = Rate (rate_of s.divisor)
says_of (AskRate channel) s = Rate (rate_of s.divisor)
says_of (SetPacketSize n) s = PacketSize s.size
says_of AskPacketSize s = PacketSize s.size

-- a box that cannot grant the wish now says NAK; else it has what the wish means
abbrev pub said_by : Wish → Settings → Reply
said_by w s = pick (refused_now w s) Nak (says_of w (granted w s))
