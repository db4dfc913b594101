-- Who acts, as the definitions say it.
use Rattle.com_model.specs.Frames.{Actor as Acting, Body, Script, Nobody}
use Rattle.com_scene.specs.declared.actor.Actor.{Actor}
use Rattle.com_scene.specs.declared.actor.Actor.TheVariants as actor

-- Who acts, in the words of the definitions: the body of a call on an object, the script of a lane, or nobody.
abbrev pub acting_of : Actor → Acting
acting_of (actor.Body c o) = Body c o
acting_of (actor.Script l) = Script l
acting_of actor.Nobody = Nobody
