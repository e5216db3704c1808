mod Bodies
mod Examples
mod Fronts
mod Notes
mod Sides
mod Words
