mod Offers
mod Neighbours
mod Turns
mod Begun
mod Inverse
