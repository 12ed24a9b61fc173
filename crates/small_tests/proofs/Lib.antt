mod Cubes
