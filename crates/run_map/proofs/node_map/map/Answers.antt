use Rattle.world.specs.Seen.{world_of}
use Rattle.run_map.proofs.node_map.map.Goals as goal

-- the run is the surveyed one, and the fleet what its node holds
pub returns-in-Ok-draw-clause-fleet : goal.returns-in-Ok-draw-clause-fleet
returns-in-Ok-draw-clause-fleet g c = (
  c.in-Ok-fleet_of.db.now,
  record {
    nodes = c.in-Ok.survey.nodes;
    end = world_of c.in-Ok.survey.world;
    runs = c.in-Ok.ensures.run;
    held = c.in-Ok-fleet_of.ensures;
  },
)

pub returns-in-Ok-draw-clause-map : goal.returns-in-Ok-draw-clause-map
returns-in-Ok-draw-clause-map g c = record {
  features = c.in-Ok-fleet_of.db.now;
  left = record {
    nodes = c.in-Ok.survey.nodes;
    end = world_of c.in-Ok.survey.world;
    runs = c.in-Ok.ensures.run;
    held = c.in-Ok-fleet_of.ensures;
  };
  t = c.instant_of-t.result;
  asked = c.instant_of-t.ensures;
  page = c.in-Ok-draw.ensures;
}
