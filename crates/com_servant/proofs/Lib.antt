mod Maps
mod Bodies
