-- What the ports offer and take in a cycle, by their drivers as they are kept.
use Rattle.std.specs.Prelude.{ℕ, ◌+◌, List, [], ◌∷◌, true, false, not, cond, None}
use Rattle.sim_ports.specs.declared.stimulus.Stall.{Stall}
use Rattle.sim_ports.specs.Sources.{Sending, offers_now}
use Rattle.sim_ports.specs.Sinks.{Serving, sink_offers, sink_takes}
use Rattle.sim_events.specs.declared.types.SourceOffer.{SourceOffer}
use Rattle.sim_events.specs.declared.types.SinkOffer.{SinkOffer}
use Rattle.sim_events.specs.Setups.{is_stalled}

-- a source port, by its number: the beat that its driver offers, unless it is stalled on channel A; it takes a beat
-- unless it is stalled on channel D
abbrev pub driver_offer : List Stall → ℕ → ℕ → Sending → SourceOffer
driver_offer stalls cycle port driver = record {
  beat = cond (is_stalled stalls true port true cycle) None (offers_now driver cycle);
  takes = not (is_stalled stalls true port false cycle);
}

-- a sink port, by its number
abbrev pub server_offer : List Stall → ℕ → ℕ → Serving → SinkOffer
server_offer stalls cycle port server = record {
  takes = sink_takes server (is_stalled stalls false port true cycle);
  beat = sink_offers server cycle (is_stalled stalls false port false cycle);
}

-- source ports, of which the first one has this number
abbrev pub driver_offers : List Stall → ℕ → ℕ → List Sending → List SourceOffer
driver_offers stalls cycle port [] = []
driver_offers stalls cycle port (driver ∷ drivers) =
    driver_offer stalls cycle port driver ∷ driver_offers stalls cycle (port + 1) drivers

-- sink ports
abbrev pub server_offers : List Stall → ℕ → ℕ → List Serving → List SinkOffer
server_offers stalls cycle port [] = []
server_offers stalls cycle port (server ∷ servers) =
    server_offer stalls cycle port server ∷ server_offers stalls cycle (port + 1) servers
