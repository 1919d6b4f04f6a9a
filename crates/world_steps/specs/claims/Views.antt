-- A world as its state and its setup.
use Rattle.world_steps.specs.declared.world.World.{World}
use Rattle.world_steps.specs.claims.Worlds.{WorldState, Setup, setup_for}
use Rattle.world_steps.specs.claims.Fits.{state_of}

abbrev pub world_state : World → WorldState
world_state world = state_of world.posted.items world.deciders.items world.lanes.items

abbrev pub world_setup : World → Setup
world_setup world = setup_for world.config.now world.zone.now world.settings
