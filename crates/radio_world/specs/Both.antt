-- A world in code: two hosts, and what lies between them (this project's own).
use Rattle.radio_world.specs.Scenes.{Scene}

pub record Both (A B : Type 0) : Type 0 where
  pub a : A
  pub b : B
  pub scene : Scene
